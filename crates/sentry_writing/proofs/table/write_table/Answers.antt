use Rattle.std.proofs.Common.{OnOk, subst}
use Rattle.sentry_tables.proofs.Tokens.{object_wrote}
use Rattle.sentry_tables.specs.Writes.{WritesTree}
use Rattle.sentry_writing.proofs.OfTables.{in_order_is}
use Rattle.sentry_writing.proofs.table.write_table.Goals as goal

pub returns : goal.returns
returns g c =
    subst (λ t. OnOk c.end_object.result (WritesTree t c.args.out.now c.end_object.new.self)) (in_order_is g.T.Table.lines c.args.value.now g.met.T.Table.ordered) (object_wrote _ _ _ _ _ _ c.in_ok-begin_object.ensures c.in_ok-write_own.ensures c.end_object.ensures)
