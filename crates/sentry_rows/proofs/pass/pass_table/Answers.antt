use Rattle.sentry_tables.specs.Fields.{rows_of}
use Rattle.sentry_rows.proofs.Passing.{table_passed}
use Rattle.sentry_rows.proofs.pass.pass_table.Goals as goal

pub returns : goal.returns
returns g c = table_passed (rows_of g.T.Table.lines) _ (g.N.Node.data_of c.args.node.now) _ _ _ _ g.met.T.Table.ordered c.in_ok-from.ensures.object c.in_ok-begin_object.ensures c.in_ok-pass_rows.ensures c.in_ok-end_object.ensures
