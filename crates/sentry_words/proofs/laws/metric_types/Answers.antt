use Rattle.sentry_tables.proofs.Spellings.{spelled_refuses_null}
use Rattle.sentry_words.specs.MetricType.{metric_type_spelling}
use Rattle.sentry_words.proofs.Enumerations.{metric_type_has_laws}
use Rattle.sentry_words.proofs.laws.metric_types.Goals as goal

pub returns-clause-laws : goal.returns-clause-laws
returns-clause-laws c = metric_type_has_laws

pub returns-clause-no_null : goal.returns-clause-no_null
returns-clause-no_null c = spelled_refuses_null metric_type_spelling
