use Rattle.sentry_forward.proofs.Twice.{twice}
use Rattle.sentry_forward.proofs.laws.twice_is_once.Goals as goal

pub returns : goal.returns
returns c = twice
