use Rattle.std.proofs.Common.{◌≡◌, drop}
use Rattle.sentry_envelope.specs.EnvelopeView.{first_event}
use Rattle.sentry_envelope.proofs.filtering.first_event.Given as goal

abbrev pub invariant-loop-item : goal.invariant-loop-item
invariant-loop-item l = first_event (drop l.item-index l.items) ≡ first_event l.items
