use Rattle.sentry_envelope.proofs.EnvelopeForwarded.{profile_framed}
use Rattle.sentry_envelope.proofs.laws.accepted_are_framed.Goals as goal

pub returns : goal.returns
returns c = profile_framed
