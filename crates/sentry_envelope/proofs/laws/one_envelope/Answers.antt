use Rattle.sentry_envelope.specs.SentryProfile.{profile}
use Rattle.sentry_envelope.proofs.OneEnvelope.{one_envelope}
use Rattle.sentry_envelope.proofs.SentryProfile.{profile_lawful}
use Rattle.sentry_envelope.proofs.WrittenDrawn.{texts_draw_nothing}
use Rattle.sentry_envelope.proofs.laws.one_envelope.Goals as goal

pub returns-clause-undrawn : goal.returns-clause-undrawn
returns-clause-undrawn c = one_envelope profile profile_lawful

pub returns-clause-written : goal.returns-clause-written
returns-clause-written c = texts_draw_nothing profile profile_lawful
