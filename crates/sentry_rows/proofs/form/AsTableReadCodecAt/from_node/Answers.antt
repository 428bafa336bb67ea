use Rattle.std.proofs.Common.{Ok, Err, refl, rules}
use Rattle.sentry_rows.proofs.Reading.{table_ends_at}
use Rattle.sentry_rows.proofs.form.AsTableReadCodecAt.from_node.Goals as goal

pub returns-in-None : goal.returns-in-None
returns-in-None g c = table_ends_at g.N.Node.data_of _ g.T.Table.lines c.read-value.result _ c.read-value.new.from _ (Ok c.read-value.result) c.in_ok-from.ensures.object c.read-value.ensures c.in_ok-from.ensures.failed (search rules, refl)

pub returns : goal.returns
returns g c = table_ends_at g.N.Node.data_of _ g.T.Table.lines c.read-value.result _ c.read-value.new.from _ (Err c.in-Some.error) c.in_ok-from.ensures.object c.read-value.ensures c.in_ok-from.ensures.failed (search rules)
