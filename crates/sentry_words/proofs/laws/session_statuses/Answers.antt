use Rattle.sentry_tables.proofs.Spellings.{spelled_refuses_null}
use Rattle.sentry_words.specs.SessionStatus.{session_status_spelling}
use Rattle.sentry_words.proofs.Enumerations.{session_status_has_laws}
use Rattle.sentry_words.proofs.laws.session_statuses.Goals as goal

pub returns-clause-laws : goal.returns-clause-laws
returns-clause-laws c = session_status_has_laws

pub returns-clause-no_null : goal.returns-clause-no_null
returns-clause-no_null c = spelled_refuses_null session_status_spelling
