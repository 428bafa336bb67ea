use Rattle.std.proofs.Common.{◌≡◌, take}
use Rattle.serde_json.specs.View.{view, items_view}
use Rattle.sentry_json.specs.Nodes.{items_data}
use Rattle.sentry_json.proofs.node.RefValueNode.items.Given as goal

abbrev pub invariant-loop-item : goal.invariant-loop-item
invariant-loop-item l = items_data (λ tree. view tree.now) l.nodes.items ≡ items_view (take l.item-index l.item-items)
