use Rattle.std.proofs.Common.{◌∙◌}
use Rattle.std.proofs.lemmas.Result.{IfOk-weaker}
use Rattle.sentry_writing.proofs.OfTables.{kept_is}
use Rattle.sentry_rows.proofs.form.AsKeptCodec.to_tree.Goals as goal

pub returns : goal.returns
returns g c = IfOk-weaker c.rows_tree.result _ _ (λ t h. h.1 ∙ kept_is g.T.Table.lines c.args.value.now _ _ _ (c.with_others.ensures h.0 ∙ c.others.ensures)) c.rows_tree.ensures
