use Rattle.std.proofs.Common.{◌^◌, refl, arith}
use Rattle.sentry_tables.proofs.Basic.{unsigned_laws, unsigned_refuses_null}
use Rattle.sentry_tables.proofs.Laws.{has_laws}
use Rattle.sentry_tables.proofs.Spellings.{spelled_has_laws, spelled_refuses_null}
use Rattle.sentry_text.specs.ProjectTree.{organization_spelling, organization_kind}
use Rattle.sentry_text.proofs.ProjectTrees.{organization_text_laws, organization_is_normal}
use Rattle.sentry_text.proofs.laws.organization_trees.Goals as goal

pub returns-clause-numbers : goal.returns-clause-numbers
returns-clause-numbers c = has_laws organization_kind (unsigned_laws (2 ^ 64) (omega arith))

pub returns-clause-texts : goal.returns-clause-texts
returns-clause-texts c = spelled_has_laws organization_spelling organization_text_laws

pub returns-clause-no_null_number : goal.returns-clause-no_null_number
returns-clause-no_null_number c = unsigned_refuses_null (2 ^ 64)

pub returns-clause-no_null_text : goal.returns-clause-no_null_text
returns-clause-no_null_text c = spelled_refuses_null organization_spelling

pub returns-clause-normal_number : goal.returns-clause-normal_number
returns-clause-normal_number c = λ n small. (small, tt, tt, refl)

pub returns-clause-normal_text : goal.returns-clause-normal_text
returns-clause-normal_text c = organization_is_normal
