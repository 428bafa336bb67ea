use Rattle.sentry_envelope.specs.SentryProfile.{profile}
use Rattle.sentry_envelope.proofs.EnvelopeLaws.{envelope_laws}
use Rattle.sentry_envelope.proofs.SentryProfile.{profile_lawful}
use Rattle.sentry_envelope.proofs.laws.sized.Goals as goal

pub returns-clause-short : goal.returns-clause-short
returns-clause-short c = (envelope_laws profile profile_lawful).short

pub returns-clause-normal : goal.returns-clause-normal
returns-clause-normal c = (envelope_laws profile profile_lawful).normal_sized
