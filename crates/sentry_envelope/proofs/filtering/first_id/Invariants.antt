use Rattle.std.proofs.Common.{◌≡◌, drop}
use Rattle.sentry_envelope.specs.Filter.{first_id_of}
use Rattle.sentry_envelope.proofs.filtering.first_id.Given as goal

abbrev pub invariant-loop-item : goal.invariant-loop-item
invariant-loop-item l = first_id_of (drop l.item-index l.items) ≡ first_id_of l.items
