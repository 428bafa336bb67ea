use Rattle.sentry_framing.proofs.Verdicts.{one_verdict}
use Rattle.sentry_framing.proofs.laws.one_verdict.Goals as goal

pub returns : goal.returns
returns c = one_verdict
