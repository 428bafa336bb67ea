use Rattle.std.specs.Prelude.{List, ℕ, length}
use Rattle.sentry_envelope.specs.FilteredText.{IsBodyOf}
use Rattle.sentry_envelope.proofs.LeftItems.{IsDecidedBy}
use Rattle.sentry_envelope.proofs.filtered.main_stays.Given as goal

abbrev pub invariant-loop-answer : goal.invariant-loop-answer
invariant-loop-answer g l = (body : List ℕ) → IsBodyOf l.bytes body → IsDecidedBy (g.K.KindChoice.stays l.choice) body l.frames.rest

abbrev pub decreases-loop-answer : goal.decreases-loop-answer
decreases-loop-answer g l = length l.frames.rest
