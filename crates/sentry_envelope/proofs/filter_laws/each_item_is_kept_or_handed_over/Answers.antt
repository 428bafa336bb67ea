use Rattle.sentry_envelope.proofs.ConservationLemmas.{conserved}
use Rattle.sentry_envelope.proofs.filter_laws.each_item_is_kept_or_handed_over.Goals as goal

pub returns : goal.returns
returns c = conserved
