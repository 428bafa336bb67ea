use Rattle.sentry_tables.proofs.Spellings.{spelled_has_laws, spelled_refuses_null}
use Rattle.sentry_text.specs.ProjectTree.{project_spelling}
use Rattle.sentry_text.proofs.ProjectTrees.{project_laws, project_is_normal}
use Rattle.sentry_text.proofs.laws.project_trees.Goals as goal

pub returns-clause-laws : goal.returns-clause-laws
returns-clause-laws c = spelled_has_laws project_spelling project_laws

pub returns-clause-no_null : goal.returns-clause-no_null
returns-clause-no_null c = spelled_refuses_null project_spelling

pub returns-clause-normal : goal.returns-clause-normal
returns-clause-normal c = project_is_normal
