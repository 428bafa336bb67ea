use Rattle.std.proofs.lemmas.Result.{IfOk-weaker}
use Rattle.sentry_writing.proofs.OfTables.{while_none}
use Rattle.sentry_records.proofs.Attributes.{tree_is}
use Rattle.sentry_records.proofs.log_attribute.LogAttributeMember.to_tree.Goals as goal

pub returns : goal.returns
returns c = IfOk-weaker c.into_tree.result _ _ (λ t h. tree_is _ _ _ _ h.1 (while_none _ _ _ c.in_ok-give.ensures.ok h.0) c.new-rows.ensures) c.into_tree.ensures
