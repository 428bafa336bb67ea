use Rattle.std.proofs.Common.{refl}
use Rattle.sentry_tables.proofs.Laws.{has_laws}
use Rattle.sentry_text.specs.Severity.{severity_kind}
use Rattle.sentry_text.proofs.SeverityLaws.{severity_laws, severity_refuses_null}
use Rattle.sentry_text.proofs.laws.log_severity_numbers.Goals as goal

pub returns-clause-laws : goal.returns-clause-laws
returns-clause-laws c = has_laws severity_kind severity_laws

pub returns-clause-no_null : goal.returns-clause-no_null
returns-clause-no_null c = severity_refuses_null

pub returns-clause-normal : goal.returns-clause-normal
returns-clause-normal c = λ n within. (within, tt, tt, refl)
