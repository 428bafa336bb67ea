use Rattle.sentry_envelope.proofs.ConservationLemmas.{parts_conserved}
use Rattle.sentry_envelope.proofs.filter_laws.parts_are_conserved.Goals as goal

pub returns : goal.returns
returns g c parts = parts_conserved parts
