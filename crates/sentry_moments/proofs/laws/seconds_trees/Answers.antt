use Rattle.sentry_tables.proofs.Laws.{has_laws}
use Rattle.sentry_moments.specs.MomentForms.{seconds_kind}
use Rattle.sentry_moments.proofs.MomentSpellings.{seconds_laws, seconds_at_once}
use Rattle.sentry_moments.proofs.laws.seconds_trees.Goals as goal

pub returns-clause-laws : goal.returns-clause-laws
returns-clause-laws c = has_laws seconds_kind seconds_laws

pub returns-clause-at_once : goal.returns-clause-at_once
returns-clause-at_once c = seconds_at_once
