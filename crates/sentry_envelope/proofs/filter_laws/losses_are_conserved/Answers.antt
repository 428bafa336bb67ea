use Rattle.sentry_envelope.proofs.LossLemmas.{losses_conserved}
use Rattle.sentry_envelope.proofs.filter_laws.losses_are_conserved.Goals as goal

pub returns : goal.returns
returns c = losses_conserved
