use Rattle.sentry_rows.proofs.Reading.{table_ends}
use Rattle.sentry_rows.proofs.form.AsTableReadCodec.from_node.Goals as goal

pub returns : goal.returns
returns g c = table_ends g.N.Node.data_of g.T.Table.lines c.read-value.result _ _ _ _ c.in_ok-from.ensures.object c.read-value.ensures c.in_ok-from.ensures.failed c.end.ensures
