use Rattle.std.proofs.Common.{ap, ◌∙◌}
use Rattle.serde_json.specs.Data.{object}
use Rattle.std.proofs.lemmas.Result.{IfOk-weaker}
use Rattle.sentry_writing.proofs.OfTables.{while_none, while_begun}
use Rattle.sentry_writing.proofs.table.rows_tree.Goals as goal

pub returns : goal.returns
returns g c = IfOk-weaker c.into_tree.result _ _ (λ t h. (while_begun _ _ _ c.give.ensures h.0, h.1 ∙ ap object (while_none _ _ _ c.give.ensures h.0))) c.into_tree.ensures
