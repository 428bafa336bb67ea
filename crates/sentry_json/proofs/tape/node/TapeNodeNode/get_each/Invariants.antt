use Rattle.std.proofs.Common.{◌≡◌, Some, length, map, option_map}
use Rattle.serde_json.specs.Data.{Members}
use Rattle.serde_json.specs.Find.{as_object}
use Rattle.sentry_json.proofs.Each.{values_at}
use Rattle.sentry_json.specs.Tokens.{members_of}
use Rattle.sentry_json.specs.TapeView.{node_data}
use Rattle.sentry_json.proofs.tape.node.TapeNodeNode.get_each.Given as goal

-- `before` are the members so far
abbrev pub invariant-loop-key : goal.invariant-loop-key
invariant-loop-key l = (before : Members) × (map (option_map node_data) l.places ≡ values_at l.keys before) × (as_object (node_data l.self) ≡ Some (members_of l.rest before))

abbrev pub decreases-loop-key : goal.decreases-loop-key
decreases-loop-key l = length l.rest
