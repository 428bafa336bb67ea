use Rattle.std.specs.List.{All}
use Rattle.sentry_envelope.specs.SentryProfile.{profile}
use Rattle.sentry_moments.specs.Moments.{moment_cell}
use Rattle.sentry_mending.specs.MendedItems.{IsMended}
use Rattle.sentry_mending.proofs.mending.mend_items.Given as goal

-- each item so far is mended
abbrev pub invariant-loop-item : goal.invariant-loop-item
invariant-loop-item g l = All (IsMended profile (moment_cell l.fn.now) l.rules l.bytes l.stands) l.items.items
