use Rattle.std.proofs.Common.{◌≡◌, ◌≤◌, length, take}
use Rattle.serde_json.specs.Find as find
use Rattle.sentry_json.specs.Nodes.{named_by}
use Rattle.sentry_json.proofs.object.Object.get.Given as goal

-- what is left has what all have at the key
abbrev pub invariant-loop-left : goal.invariant-loop-left
invariant-loop-left g l = (l.left ≤ length l.self.members.items) × (find.get_member l.key (named_by g.N.Node.data_of (take l.left l.self.members.items)) ≡ find.get_member l.key (named_by g.N.Node.data_of l.self.members.items))

abbrev pub decreases-loop-left : goal.decreases-loop-left
decreases-loop-left g l = l.left
