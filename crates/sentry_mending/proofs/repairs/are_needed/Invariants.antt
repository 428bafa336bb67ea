use Rattle.std.proofs.Common.{ℕ, ◌<◌}
use Rattle.sentry_places.specs.Needed.{without}
use Rattle.sentry_places.specs.Spliced.{spliced}
use Rattle.sentry_envelope.specs.SentryProfile.{profile}
use Rattle.sentry_mending.specs.Alone.{RefusesPayload}
use Rattle.sentry_mending.proofs.repairs.are_needed.Given as goal

-- each note before this one is needed
abbrev pub invariant-loop-k : goal.invariant-loop-k
invariant-loop-k g l = (i : ℕ) → i < l.k → RefusesPayload profile l.word (spliced l.start (without i l.notes) l.bytes)
