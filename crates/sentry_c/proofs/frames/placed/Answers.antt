use Rattle.sentry_framing.specs.View.{frame_of}
use Rattle.sentry_c.proofs.Placed.{header_room, header_placed, payload_placed}
use Rattle.sentry_c.proofs.frames.placed.Goals as goal

pub payload_offset-requires : goal.payload_offset-requires
payload_offset-requires c =
    let front = c.skip_space-front.result.now in
    let first = c.requires.first in
    header_room first.0 c.args.bytes.now c.args.body.now front (frame_of c.args.item.now) first.1 c.requires.ends first.2 c.skip_space-front.ensures.skipped c.skip_space-front.ensures.all

pub returns-clause-placed : goal.returns-clause-placed
returns-clause-placed c =
    let front = c.skip_space-front.result.now in
    let first = c.requires.first in
    record {
      header = header_placed first.0 c.args.bytes.now c.args.body.now front (frame_of c.args.item.now) first.1 c.requires.ends first.2 c.skip_space-front.ensures.skipped c.skip_space-front.ensures.all;
      payload = payload_placed first.0 c.args.bytes.now c.args.body.now front (frame_of c.args.item.now) first.1 c.requires.ends first.2 c.skip_space-front.ensures.skipped c.skip_space-front.ensures.all _ c.payload_offset.ensures;
    }
