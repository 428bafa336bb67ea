use Rattle.sentry_tables.proofs.Laws.{has_laws}
use Rattle.sentry_moments.specs.SamplingTexts.{sample_rate_kind}
use Rattle.sentry_moments.proofs.SamplingSpellings.{sample_rate_scalar_laws, sample_rate_refuses_null}
use Rattle.sentry_moments.proofs.laws.sample_rate_trees.Goals as goal

pub returns-clause-laws : goal.returns-clause-laws
returns-clause-laws c = has_laws sample_rate_kind sample_rate_scalar_laws

pub returns-clause-not_null : goal.returns-clause-not_null
returns-clause-not_null c = sample_rate_refuses_null
