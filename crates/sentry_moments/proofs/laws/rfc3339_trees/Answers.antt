use Rattle.sentry_tables.proofs.Laws.{has_laws}
use Rattle.sentry_moments.specs.MomentForms.{rfc3339_kind}
use Rattle.sentry_moments.proofs.MomentSpellings.{rfc3339_scalar_laws, rfc3339_at_once}
use Rattle.sentry_moments.proofs.laws.rfc3339_trees.Goals as goal

pub returns-clause-laws : goal.returns-clause-laws
returns-clause-laws c = has_laws rfc3339_kind rfc3339_scalar_laws

pub returns-clause-at_once : goal.returns-clause-at_once
returns-clause-at_once c = rfc3339_at_once
