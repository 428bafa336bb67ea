use Rattle.sentry_env.proofs.CallLemmas.{IsCall-only}
use Rattle.sentry_env.proofs.laws.calls_have_one_meaning.Goals as goal

pub returns : goal.returns
returns c = IsCall-only
