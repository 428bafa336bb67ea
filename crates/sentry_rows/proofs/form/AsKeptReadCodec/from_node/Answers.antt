use Rattle.sentry_rows.proofs.Reading.{kept_ends}
use Rattle.sentry_rows.proofs.form.AsKeptReadCodec.from_node.Goals as goal

pub returns : goal.returns
returns g c = kept_ends g.N.Node.data_of g.T.Table.lines g.T.KeptTable.reserved g.T.KeptTable.others_of c.read-value.result _ _ _ _ c.in_ok-from.ensures.object c.read-value.ensures c.in_ok-from.ensures.failed c.end.ensures
