use Rattle.std.proofs.Common.{refl}
use Rattle.sentry_framing.specs.View.{frame_of}
use Rattle.sentry_forward.specs.AnyHeader.{any_reading}
use Rattle.sentry_c.proofs.Items.{item_stands}
use Rattle.sentry_c.proofs.Placed.{frame_ends}
use Rattle.sentry_c.proofs.any_frames.placed_item.Goals as goal

pub returns-clause-placed : goal.returns-clause-placed
returns-clause-placed c =
    let item = frame_ends any_reading c.args.body.now (frame_of c.args.item.now) c.args.rest.now c.requires.first in (
      item.0,
      item.1,
      record {
        whole = item_stands c.args.bytes.now c.args.body.now item.0 c.args.rest.now _ _ c.requires.ends item.1 refl refl;
        header = c.placed-frame.ensures.placed.header;
        payload = c.placed-frame.ensures.placed.payload;
      },
    )
