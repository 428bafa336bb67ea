use Rattle.sentry_reports.proofs.Words.{category_at_index}
use Rattle.sentry_reports.proofs.laws.categories_stand_at_their_indices.Goals as goal

pub returns-clause-distinct : goal.returns-clause-distinct
returns-clause-distinct c = category_at_index
