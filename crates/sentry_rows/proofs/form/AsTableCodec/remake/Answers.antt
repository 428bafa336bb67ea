use Rattle.std.proofs.lemmas.Result.{IfOk-weaker}
use Rattle.sentry_rows.proofs.Copying.{table_ended}
use Rattle.sentry_rows.proofs.form.AsTableCodec.remake.Goals as goal

pub returns : goal.returns
returns g c = IfOk-weaker c.end.result _ _ (table_ended _ g.T.Table.lines c.args.value.now _ _ _ c.new-copies.ensures.way c.in_ok-copy.ensures) c.end.ensures
