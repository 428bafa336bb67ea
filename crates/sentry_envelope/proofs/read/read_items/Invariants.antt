use Rattle.std.proofs.Common.{length}
use Rattle.std.specs.Prelude.{map}
use Rattle.sentry_envelope.specs.Envelope.{ItemsStand}
use Rattle.sentry_envelope.specs.EnvelopeView.{item_view}
use Rattle.sentry_moments.specs.Moments.{moment_cell}
use Rattle.sentry_envelope.specs.SentryProfile.{profile}
use Rattle.sentry_envelope.proofs.read.read_items.Given as goal

abbrev pub invariant-loop-answer : goal.invariant-loop-answer
invariant-loop-answer g l = ItemsStand profile (moment_cell l.now) l.fn.frames.rest (map item_view l.items.items) l.frames.rest

abbrev pub decreases-loop-answer : goal.decreases-loop-answer
decreases-loop-answer g l = length l.frames.rest
