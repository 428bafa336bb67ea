use Rattle.sentry_reports.proofs.Alike.{alike_in_any_order, alike_without_nothing}
use Rattle.sentry_reports.proofs.laws.alike_reports.Goals as goal

pub returns-clause-any_order : goal.returns-clause-any_order
returns-clause-any_order c = alike_in_any_order

pub returns-clause-without_zeros : goal.returns-clause-without_zeros
returns-clause-without_zeros c = alike_without_nothing
