use Rattle.std.proofs.Common.{length}
use Rattle.sentry_items.specs.Texts.{bytes_of}
use Rattle.sentry_moments.specs.Moments.{moment_cell}
use Rattle.sentry_envelope.specs.HeaderFields.{given_id}
use Rattle.sentry_envelope.proofs.LeftItems.{IsLeftSoFar, IsSettled, SoFar}
use Rattle.sentry_envelope.proofs.filtered.read_left.Given as goal

abbrev pub invariant-loop-answer : goal.invariant-loop-answer
invariant-loop-answer g l =
    let stays = g.K.KindChoice.stays l.choice in
    let left : SoFar = record { text = bytes_of l.text; id = given_id l.id; losses = l.losses.items; any = l.any; main = l.main; attached = l.attached } in
    IsLeftSoFar stays l.beside (moment_cell l.now) l.fn.frames.rest l.frames.rest left × IsSettled stays l.bytes l.beside left

abbrev pub decreases-loop-answer : goal.decreases-loop-answer
decreases-loop-answer g l = length l.frames.rest
