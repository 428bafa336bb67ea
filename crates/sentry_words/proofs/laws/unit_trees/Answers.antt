use Rattle.std.proofs.Common.{refl}
use Rattle.sentry_tables.proofs.Spellings.{spelled_refuses_null}
use Rattle.sentry_words.specs.Units.{unit_spelling}
use Rattle.sentry_words.proofs.UnitLaws.{unit_has_laws}
use Rattle.sentry_words.proofs.laws.unit_trees.Goals as goal

pub returns-clause-laws : goal.returns-clause-laws
returns-clause-laws c = unit_has_laws

pub returns-clause-no_null : goal.returns-clause-no_null
returns-clause-no_null c = spelled_refuses_null unit_spelling

pub returns-clause-normal : goal.returns-clause-normal
returns-clause-normal c = λ name is. (is, tt, tt, refl)
