use Rattle.sentry_envelope.specs.SentryProfile.{profile}
use Rattle.sentry_envelope.proofs.Accepted.{accepted_is_readable}
use Rattle.sentry_envelope.proofs.SentryProfile.{profile_lawful}
use Rattle.sentry_envelope.proofs.laws.accepted_is_readable.Goals as goal

pub returns : goal.returns
returns c = accepted_is_readable profile profile_lawful
