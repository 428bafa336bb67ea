use Rattle.sentry_env.proofs.OutcomeLemmas.{due_is_settled}
use Rattle.sentry_env.proofs.laws.runs_have_one_outcome.Goals as goal

pub returns : goal.returns
returns c = due_is_settled
