use Rattle.sentry_keys.proofs.AuthChoices.{some_auth}
use Rattle.sentry_keys.proofs.AuthLaws.{one_auth, one_refusal, told_or_refused}
use Rattle.sentry_keys.proofs.auth_laws.auths_of_pairs.Goals as goal

pub returns-clause-one : goal.returns-clause-one
returns-clause-one c = one_auth

pub returns-clause-one_refusal : goal.returns-clause-one_refusal
returns-clause-one_refusal c = one_refusal

pub returns-clause-apart : goal.returns-clause-apart
returns-clause-apart c = told_or_refused

pub returns-clause-decided : goal.returns-clause-decided
returns-clause-decided c = some_auth
