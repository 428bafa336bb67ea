use Rattle.std.proofs.Common.{drop}
use Rattle.std.specs.Prelude.{◌↔◌}
use Rattle.sentry_tables.specs.Meets.{IsPlain, IsStored, AllCells}
use Rattle.sentry_tables.specs.Cells.{cells}
use Rattle.sentry_tables.proofs.lists.VecMember.is_plain.Given as goal

abbrev pub invariant-loop-item : goal.invariant-loop-item
invariant-loop-item g l = record {
  plain : AllCells (IsPlain g.T.Member.kind) (cells g.T.Member.cell_of (drop l.item-index l.item-items)) ↔ AllCells (IsPlain g.T.Member.kind) (cells g.T.Member.cell_of l.self.items);
  stored : AllCells (IsStored g.T.Member.kind) (cells g.T.Member.cell_of (drop l.item-index l.item-items)) → AllCells (IsStored g.T.Member.kind) (cells g.T.Member.cell_of l.self.items);
}
