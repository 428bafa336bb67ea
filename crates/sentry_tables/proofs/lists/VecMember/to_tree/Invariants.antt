use Rattle.std.proofs.Common.{take, ◌≡◌}
use Rattle.serde_json.specs.View.{items_view}
use Rattle.sentry_tables.specs.Cells.{cells}
use Rattle.sentry_tables.specs.Writes.{written}
use Rattle.sentry_tables.specs.Written.{items_tree}
use Rattle.sentry_tables.proofs.lists.VecMember.to_tree.Given as goal

abbrev pub invariant-loop-item : goal.invariant-loop-item
invariant-loop-item g l = items_view l.items.items ≡ items_tree (written g.T.Member.kind) (cells g.T.Member.cell_of (take l.item-index l.item-items))
