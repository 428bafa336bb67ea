use Rattle.std.proofs.Common.{◌≡◌, ◌≤◌, ◌+◌, ◌-◌, ◌^◌, drop}
use Rattle.serde_json.specs.View.{items_view, members_view}
use Rattle.sentry_items.specs.Sizes.{cut, items_size, members_size}
use Rattle.sentry_items.proofs.sizes.+tree_size.Given as goal

-- the sum is within its bound, and with what is left, all is summed
abbrev pub invariant-items_size-loop-item : goal.invariant-items_size-loop-item
invariant-items_size-loop-item l = (l.sum ≤ 2 ^ 64 - 1) × (cut (l.sum + items_size (items_view (drop l.item-index l.item-items))) ≡ cut (items_size (items_view l.items.items)))

abbrev pub invariant-members_size-loop-key : goal.invariant-members_size-loop-key
invariant-members_size-loop-key l = (l.sum ≤ 2 ^ 64 - 1) × (cut (l.sum + members_size (members_view l.key-iterator)) ≡ cut (members_size (members_view l.members.entries)))
