use Rattle.sentry_tables.specs.Fields.{rows_of}
use Rattle.sentry_moments.specs.Moments.{moment_cell}
use Rattle.sentry_rows.proofs.Passing.{table_passed_at}
use Rattle.sentry_rows.proofs.pass.pass_table_at.Goals as goal

pub returns : goal.returns
returns g c = table_passed_at (moment_cell c.args.now) (rows_of g.T.Table.lines) _ (g.N.Node.data_of c.args.node.now) _ _ _ _ g.met.T.Table.ordered c.in_ok-from.ensures.object c.in_ok-begin_object.ensures c.in_ok-pass_rows_at.ensures c.in_ok-end_object.ensures
