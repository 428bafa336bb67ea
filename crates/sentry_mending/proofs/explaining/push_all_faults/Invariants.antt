use Rattle.std.specs.List.{All}
use Rattle.sentry_envelope.specs.SentryProfile.{profile}
use Rattle.sentry_mending.specs.Told.{IsTold}
use Rattle.sentry_mending.proofs.explaining.push_all_faults.Given as goal

-- each fault so far is told
abbrev pub invariant-loop-item : goal.invariant-loop-item
invariant-loop-item g l = All (IsTold profile l.bytes) l.faults.items
