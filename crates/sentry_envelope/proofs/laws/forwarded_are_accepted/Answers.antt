use Rattle.sentry_envelope.proofs.EnvelopeForwarded.{profile_forwarded, profile_kept}
use Rattle.sentry_envelope.proofs.laws.forwarded_are_accepted.Goals as goal

pub returns-clause-forwarded : goal.returns-clause-forwarded
returns-clause-forwarded c = profile_forwarded

pub returns-clause-kept : goal.returns-clause-kept
returns-clause-kept c = profile_kept
