use Rattle.std.proofs.Common.{take, ◌≡◌}
use Rattle.sentry_tables.specs.Cells.{cells}
use Rattle.sentry_tables.specs.Made.{made}
use Rattle.sentry_tables.proofs.lists.VecMember.remake.Given as goal

abbrev pub invariant-loop-item : goal.invariant-loop-item
invariant-loop-item g l = cells g.T.Member.cell_of l.list.items ≡ cells (λ x. made l.way g.T.Member.kind (g.T.Member.cell_of x)) (take l.item-index l.item-items)
