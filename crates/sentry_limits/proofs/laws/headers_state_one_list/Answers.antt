use Rattle.sentry_limits.proofs.Limits.{same_limits}
use Rattle.sentry_limits.proofs.laws.headers_state_one_list.Goals as goal

pub returns : goal.returns
returns c = same_limits
