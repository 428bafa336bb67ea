use Rattle.std.proofs.lemmas.Result.{IfOk-weaker}
use Rattle.sentry_writing.specs.Given.{GivesRow}
use Rattle.sentry_writing.proofs.OfTables.{values_is, while_none}
use Rattle.sentry_writing.proofs.values.AsValuesCodecValues.to_tree.Goals as goal

pub returns : goal.returns
unfolding GivesRow
returns g c = IfOk-weaker c.into_tree.result _ _ (λ t h. values_is g.T.Member.kind g.T.Member.cell_of c.args.value.now.values.items _ _ _ h.1 (while_none _ _ _ c.required.ensures.0 h.0) c.new-rows.ensures) c.into_tree.ensures
