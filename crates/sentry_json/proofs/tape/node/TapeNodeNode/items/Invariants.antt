use Rattle.std.proofs.Common.{◌≡◌, Some, length}
use Rattle.serde_json.specs.Find.{as_array}
use Rattle.sentry_json.proofs.Gathered.{items_before}
use Rattle.sentry_json.specs.Tokens.{items_of}
use Rattle.sentry_json.specs.TapeView.{node_data}
use Rattle.sentry_json.proofs.tape.node.TapeNodeNode.items.Given as goal

abbrev pub invariant-loop-node : goal.invariant-loop-node
invariant-loop-node l = as_array (node_data l.self) ≡ Some (items_before node_data l.nodes.items (items_of l.rest))

abbrev pub decreases-loop-node : goal.decreases-loop-node
decreases-loop-node l = length l.rest
