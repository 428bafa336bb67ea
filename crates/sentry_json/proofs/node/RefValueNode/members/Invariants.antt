use Rattle.std.proofs.Common.{◌≡◌, List, ◌++◌, Some, string_cmp}
use Rattle.std.specs.List.Sorted.{IsStrictlySortedBy}
use Rattle.std.specs.Map.{keys_of}
use Rattle.serde_json.specs.Find.{as_object}
use Rattle.serde_json.specs.View.{view, members_view}
use Rattle.serde_json.proofs.Views.{Entry}
use Rattle.sentry_json.specs.Nodes.{named_by}
use Rattle.sentry_json.proofs.node.RefValueNode.members.Given as goal

abbrev pub invariant-loop-key : goal.invariant-loop-key
invariant-loop-key l =
    (done : List Entry) × (as_object (view l.self.now) ≡ Some (members_view (done ++ l.key-iterator))) × IsStrictlySortedBy string_cmp (keys_of (done ++ l.key-iterator))
    × (named_by (λ tree. view tree.now) l.named.items ≡ members_view done)
