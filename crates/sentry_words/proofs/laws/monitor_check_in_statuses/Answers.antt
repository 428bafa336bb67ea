use Rattle.sentry_tables.proofs.Spellings.{spelled_refuses_null}
use Rattle.sentry_words.specs.MonitorCheckInStatus.{check_in_status_spelling}
use Rattle.sentry_words.proofs.Enumerations.{check_in_status_has_laws}
use Rattle.sentry_words.proofs.laws.monitor_check_in_statuses.Goals as goal

pub returns-clause-laws : goal.returns-clause-laws
returns-clause-laws c = check_in_status_has_laws

pub returns-clause-no_null : goal.returns-clause-no_null
returns-clause-no_null c = spelled_refuses_null check_in_status_spelling
