use Rattle.sentry_tables.proofs.Laws.{has_laws}
use Rattle.sentry_moments.specs.SamplingTexts.{sample_rand_kind}
use Rattle.sentry_moments.proofs.SamplingSpellings.{sample_rand_scalar_laws, sample_rand_refuses_null}
use Rattle.sentry_moments.proofs.laws.sample_rand_trees.Goals as goal

pub returns-clause-laws : goal.returns-clause-laws
returns-clause-laws c = has_laws sample_rand_kind sample_rand_scalar_laws

pub returns-clause-not_null : goal.returns-clause-not_null
returns-clause-not_null c = sample_rand_refuses_null
