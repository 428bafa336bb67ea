use Rattle.std.proofs.Common.{refl}
use Rattle.sentry_keys.specs.AuthFields.{auth_kind}
use Rattle.sentry_keys.proofs.AuthLaws.{auth_kind_laws, auth_refuses_null}
use Rattle.sentry_keys.proofs.auth_laws.auth_trees.Goals as goal

pub returns-clause-laws : goal.returns-clause-laws
returns-clause-laws c = auth_kind_laws

pub returns-clause-null : goal.returns-clause-null
returns-clause-null c = auth_refuses_null

pub returns-clause-untimed : goal.returns-clause-untimed
unfolding auth_kind
returns-clause-untimed c = λ a. refl
