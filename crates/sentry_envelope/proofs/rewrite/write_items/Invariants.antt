use Rattle.std.proofs.Common.{length}
use Rattle.sentry_items.specs.Texts.{bytes_of}
use Rattle.sentry_moments.specs.Moments.{moment_cell}
use Rattle.sentry_envelope.specs.NormalText.{AreItemsWritten}
use Rattle.sentry_envelope.proofs.rewrite.write_items.Given as goal

abbrev pub invariant-loop-answer : goal.invariant-loop-answer
invariant-loop-answer g l = AreItemsWritten (moment_cell l.now) l.fn.frames.rest l.frames.rest l.fn.id l.id (bytes_of l.fn.text) (bytes_of l.text)

abbrev pub decreases-loop-answer : goal.decreases-loop-answer
decreases-loop-answer g l = length l.frames.rest
