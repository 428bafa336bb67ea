use Rattle.std.proofs.Common.{◌∙◌}
use Rattle.std.proofs.lemmas.Result.{IfOk-weaker}
use Rattle.sentry_writing.proofs.OfTables.{case_is, while_none, while_begun}
use Rattle.sentry_writing.proofs.table.case_tree.Goals as goal

pub returns : goal.returns
returns g c = IfOk-weaker c.rows_tree.result _ _ (λ t h. (while_begun _ _ _ c.word.ensures.0 h.0, h.1 ∙ case_is g.T.Table.lines c.args.value.now c.args.word.now _ _ (while_none _ _ _ c.word.ensures.0 h.0))) c.rows_tree.ensures
