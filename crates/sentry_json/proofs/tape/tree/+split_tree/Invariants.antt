use Rattle.std.proofs.Common.{◌≡◌, ◌+◌, ◌*◌, ◌≤◌, List, length, false}
use Rattle.serde_json.specs.Data.{Data}
use Rattle.serde_json.specs.View.{items_view, members_view}
use Rattle.sentry_json.specs.Nodes.{items_data}
use Rattle.sentry_json.specs.declared.tape.token.Token.{Token}
use Rattle.sentry_json.proofs.Flat.{ReadSoFar}
use Rattle.sentry_json.proofs.Lists.{Mean}
use Rattle.sentry_json.proofs.SoFar.{Before}
use Rattle.sentry_json.proofs.tape.tree.+split_tree.Given as goal

abbrev pub decreases-split_tree : goal.decreases-split_tree
decreases-split_tree l = 2 * l.depth + 1

abbrev pub decreases-split_items : goal.decreases-split_items
decreases-split_items l = 2 * l.depth

abbrev pub decreases-split_members : goal.decreases-split_members
decreases-split_members l = 2 * l.depth

-- there are tokens for the items so far
abbrev pub invariant-split_items-loop-items : goal.invariant-split_items-loop-items
invariant-split_items-loop-items l =
    (done : List Token) × (items : List Data) × Before false false false l.fn.inside.text.now l.left.text.now done l.depth × Mean done items × (items_data (λ d. d) items ≡ items_view l.items.items) × (length l.left.text.now ≤ length l.fn.inside.text.now)

abbrev pub decreases-split_items-loop-items : goal.decreases-split_items-loop-items
decreases-split_items-loop-items l = length l.left.text.now

abbrev pub invariant-split_members-loop-members : goal.invariant-split_members-loop-members
invariant-split_members-loop-members l = ReadSoFar l.fn.inside.text.now l.left.text.now (members_view l.members.entries) l.depth × (length l.left.text.now ≤ length l.fn.inside.text.now)

abbrev pub decreases-split_members-loop-members : goal.decreases-split_members-loop-members
decreases-split_members-loop-members l = length l.left.text.now
