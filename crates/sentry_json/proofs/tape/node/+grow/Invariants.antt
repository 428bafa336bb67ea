use Rattle.std.proofs.Common.{◌≡◌, ◌+◌, ◌*◌, ◌<◌, length, drop}
use Rattle.serde_json.specs.Data.{no_members}
use Rattle.serde_json.specs.View.{view, members_view}
use Rattle.sentry_json.proofs.Gathered.{items_before}
use Rattle.sentry_json.specs.Tokens.{items_of, members_of}
use Rattle.sentry_json.proofs.tape.node.+grow.Given as goal

abbrev pub decreases-grow : goal.decreases-grow
decreases-grow l = 2 * length l.node.tokens.now + 1

abbrev pub decreases-grow_items : goal.decreases-grow_items
decreases-grow_items l = 2 * length l.node.tokens.now

abbrev pub decreases-grow_members : goal.decreases-grow_members
decreases-grow_members l = 2 * length l.node.tokens.now

abbrev pub invariant-grow_items-loop-item : goal.invariant-grow_items-loop-item
invariant-grow_items-loop-item l = (items_of (drop 1 l.node.tokens.now) ≡ items_before view l.values.items (items_of l.rest)) × (length l.rest < length l.node.tokens.now)

abbrev pub decreases-grow_items-loop-item : goal.decreases-grow_items-loop-item
decreases-grow_items-loop-item l = length l.rest

abbrev pub invariant-grow_members-loop-key : goal.invariant-grow_members-loop-key
invariant-grow_members-loop-key l = (members_of (drop 1 l.node.tokens.now) no_members ≡ members_of l.rest (members_view l.values.entries)) × (length l.rest < length l.node.tokens.now)

abbrev pub decreases-grow_members-loop-key : goal.decreases-grow_members-loop-key
decreases-grow_members-loop-key l = length l.rest
