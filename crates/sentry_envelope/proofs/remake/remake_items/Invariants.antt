use Rattle.std.proofs.Common.{◌≡◌, ◌++◌, drop}
use Rattle.std.specs.Prelude.{map}
use Rattle.sentry_envelope.specs.EnvelopeMade.{items_made}
use Rattle.sentry_envelope.specs.EnvelopeView.{item_view}
use Rattle.sentry_envelope.proofs.remake.remake_items.Given as goal

-- with what the items that are left give, all will be made
abbrev pub invariant-loop-item : goal.invariant-loop-item
invariant-loop-item l = map item_view l.made.items ++ items_made l.way (map item_view (drop l.item-index l.items)) ≡ items_made l.way (map item_view l.items)
