use Rattle.sentry_framing.proofs.Verdicts.{same_first}
use Rattle.sentry_framing.proofs.laws.one_first_frame.Goals as goal

pub returns : goal.returns
returns c = same_first
