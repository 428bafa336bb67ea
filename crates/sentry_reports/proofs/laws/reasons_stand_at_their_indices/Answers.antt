use Rattle.sentry_reports.proofs.Words.{reason_at_index}
use Rattle.sentry_reports.proofs.laws.reasons_stand_at_their_indices.Goals as goal

pub returns-clause-distinct : goal.returns-clause-distinct
returns-clause-distinct c = reason_at_index
