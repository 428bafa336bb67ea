use Rattle.sentry_tables.proofs.Spellings.{spelled_refuses_null}
use Rattle.sentry_words.specs.SpanStatus.{span_status_spelling}
use Rattle.sentry_words.proofs.Enumerations.{span_status_has_laws}
use Rattle.sentry_words.proofs.laws.span_statuses.Goals as goal

pub returns-clause-laws : goal.returns-clause-laws
returns-clause-laws c = span_status_has_laws

pub returns-clause-no_null : goal.returns-clause-no_null
returns-clause-no_null c = spelled_refuses_null span_status_spelling
