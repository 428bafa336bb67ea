use Rattle.std.specs.List.{All}
use Rattle.sentry_envelope.specs.SentryProfile.{profile}
use Rattle.sentry_mending.specs.Told.{IsTold}
use Rattle.sentry_mending.proofs.explaining.push_line_faults.Given as goal

-- each fault so far is told
abbrev pub invariant-loop-cause : goal.invariant-loop-cause
invariant-loop-cause g l = All (IsTold profile l.bytes) l.faults.items
