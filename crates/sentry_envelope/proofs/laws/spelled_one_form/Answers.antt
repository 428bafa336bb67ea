use Rattle.sentry_envelope.specs.SentryProfile.{profile}
use Rattle.sentry_envelope.proofs.EnvelopeLaws.{envelope_laws}
use Rattle.sentry_envelope.proofs.SentryProfile.{profile_lawful}
use Rattle.sentry_envelope.proofs.laws.spelled_one_form.Goals as goal

pub returns : goal.returns
returns c = (envelope_laws profile profile_lawful).spelled_one_form
