use Rattle.std.proofs.Common.{◌≡◌, Some, length}
use Rattle.serde_json.specs.Find.{as_object}
use Rattle.sentry_json.specs.Nodes.{named_by}
use Rattle.sentry_json.specs.Tokens.{members_of}
use Rattle.sentry_json.specs.TapeView.{node_data}
use Rattle.sentry_json.proofs.tape.node.TapeNodeNode.members.Given as goal

abbrev pub invariant-loop-key : goal.invariant-loop-key
invariant-loop-key l = as_object (node_data l.self) ≡ Some (members_of l.rest (named_by node_data l.named.items))

abbrev pub decreases-loop-key : goal.decreases-loop-key
decreases-loop-key l = length l.rest
