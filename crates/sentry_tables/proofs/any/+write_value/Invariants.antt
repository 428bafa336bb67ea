use Rattle.std.proofs.Common.{drop}
use Rattle.json.specs.Written.{Written}
use Rattle.serde_json.specs.View.{items_view, members_view}
use Rattle.sentry_tables.specs.Writes.{WritesItems, WritesMembers}
use Rattle.sentry_tables.proofs.any.+write_value.Given as goal

-- whatever writes the items that are left writes all of them
abbrev pub invariant-write_items-loop-item : goal.invariant-write_items-loop-item
invariant-write_items-loop-item l =
    (end : Written) → WritesItems (items_view (drop l.item-index l.item-items)) l.out end → WritesItems (items_view l.items.items) l.initial.out end

abbrev pub invariant-write_members-loop-key : goal.invariant-write_members-loop-key
invariant-write_members-loop-key l =
    (end : Written) → WritesMembers (members_view l.key-iterator) l.out end → WritesMembers (members_view l.members.entries) l.initial.out end
