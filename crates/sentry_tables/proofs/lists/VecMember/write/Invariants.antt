use Rattle.std.proofs.Common.{drop}
use Rattle.json.specs.Written.{Written}
use Rattle.sentry_tables.specs.Written.{items_tree}
use Rattle.sentry_tables.specs.Cells.{cells}
use Rattle.sentry_tables.specs.Writes.{written, WritesItems}
use Rattle.sentry_tables.proofs.lists.VecMember.write.Given as goal

-- whatever writes the items that are left writes all of them
abbrev pub invariant-loop-item : goal.invariant-loop-item
invariant-loop-item g l =
    (end : Written) → WritesItems (items_tree (written g.T.Member.kind) (cells g.T.Member.cell_of (drop l.item-index l.item-items))) l.out end
    → WritesItems (items_tree (written g.T.Member.kind) (cells g.T.Member.cell_of l.self.items)) l.initial.out end
