use Rattle.sentry_tables.proofs.Spellings.{spelled_refuses_null}
use Rattle.sentry_words.specs.MonitorIntervalUnit.{interval_unit_spelling}
use Rattle.sentry_words.proofs.Enumerations.{interval_unit_has_laws}
use Rattle.sentry_words.proofs.laws.monitor_interval_units.Goals as goal

pub returns-clause-laws : goal.returns-clause-laws
returns-clause-laws c = interval_unit_has_laws

pub returns-clause-no_null : goal.returns-clause-no_null
returns-clause-no_null c = spelled_refuses_null interval_unit_spelling
