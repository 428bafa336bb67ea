use Rattle.std.proofs.Common.{◌∙◌}
use Rattle.std.proofs.lemmas.Result.{IfOk-weaker}
use Rattle.sentry_writing.proofs.OfTables.{table_is}
use Rattle.sentry_writing.proofs.table.table_tree.Goals as goal

pub returns : goal.returns
returns g c = IfOk-weaker c.rows_tree.result _ _ (λ t h. h.1 ∙ table_is g.T.Table.lines c.args.value.now _ c.new.ensures) c.rows_tree.ensures
