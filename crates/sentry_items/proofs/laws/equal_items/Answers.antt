use Rattle.sentry_items.proofs.Items.{attachments_decide, items_decide}
use Rattle.sentry_items.proofs.laws.equal_items.Goals as goal

pub returns-clause-attachments : goal.returns-clause-attachments
returns-clause-attachments c = attachments_decide

pub returns-clause-items : goal.returns-clause-items
returns-clause-items c = items_decide
