use Rattle.std.proofs.Common.{arith, ◌∙◌}
use Rattle.sentry_framing.specs.HeaderView.{header_view}
use Rattle.sentry_framing.specs.View.{frame_of}
use Rattle.sentry_c.specs.Places.{EndsWith}
use Rattle.sentry_c.proofs.Placed.{body_from_ends, end_fits, end_is_dropped, ends_through, frame_ends}
use Rattle.sentry_c.proofs.frames.curdmesa_frames_next.Goals as goal

pub placed-requires-clause-ends : goal.placed-requires-clause-ends
placed-requires-clause-ends c = rw c.rest-body.ensures (body_from_ends _ _ _ c.in-Some.ensures.body)

pub overflow_sub-offset : goal.overflow_sub-offset
overflow_sub-offset c =
    let first = rw c.in-Some-Ok.field-0-is at c.in-Some-Ok.ensures.frame in
    let ends : EndsWith c.args.bytes.now c.next_item.new.self.rest = ends_through _ _ _ (body_from_ends _ _ _ c.in-Some.ensures.body) (frame_ends _ _ _ _ first) in
    rw c.rest.ensures (end_fits _ _ ends)

pub returns-in-Some-Ok-clause-found : goal.returns-in-Some-Ok-clause-found
returns-in-Some-Ok-clause-found c = λ _.
    let first = rw c.in-Some-Ok.field-0-is at c.in-Some-Ok.ensures.frame in
    let reads = rw c.in-Some-Ok.field-0-is at c.in-Some-Ok.ensures.header in
    let ends : EndsWith c.args.bytes.now c.next_item.new.self.rest = ends_through _ _ _ (body_from_ends _ _ _ c.in-Some.ensures.body) (frame_ends _ _ _ _ first) in
    let dropped = end_is_dropped _ _ ends in
    record {
      body = c.in-Some.frames.rest;
      begins = c.in-Some.ensures.body;
      frame = frame_of c.in-Some-Ok.item;
      first = rw (c.rest.ensures, dropped) first;
      within = omega arith;
      placed = c.placed.ensures.placed;
      fields = header_view c.in-Some-Ok.header;
      reads = reads;
      kind = c.placed.ensures.kind ∙ c.number_of.ensures.place;
    }
