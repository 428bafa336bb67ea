use Rattle.sentry_tables.proofs.Spellings.{spelled_refuses_null}
use Rattle.sentry_words.specs.LogLevel.{log_level_spelling}
use Rattle.sentry_words.proofs.Enumerations.{log_level_has_laws}
use Rattle.sentry_words.proofs.laws.log_levels.Goals as goal

pub returns-clause-laws : goal.returns-clause-laws
returns-clause-laws c = log_level_has_laws

pub returns-clause-no_null : goal.returns-clause-no_null
returns-clause-no_null c = spelled_refuses_null log_level_spelling
