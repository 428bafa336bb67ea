use Rattle.sentry_c.proofs.Refusals.{records_append}
use Rattle.sentry_c.proofs.recording.add_category.Goals as goal

pub returns-clause-recorded : goal.returns-clause-recorded
returns-clause-recorded c = records_append _ _ _ _ _ _ _ _ _ (rw c.loss_at.ensures at c.add_loss.ensures.recorded) c.add_reasons.ensures.recorded
