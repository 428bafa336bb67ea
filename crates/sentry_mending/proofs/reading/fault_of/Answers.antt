use Rattle.sentry_envelope.specs.EnvelopeView.{structured}
use Rattle.sentry_envelope.specs.SentryProfile.{profile}
use Rattle.sentry_moments.specs.Moments.{moment_cell}
use Rattle.sentry_mending.proofs.Refusals.{reads_made}
use Rattle.sentry_mending.proofs.reading.fault_of.Goals as goal

pub returns-in-Ok-clause-reads : goal.returns-in-Ok-clause-reads
returns-in-Ok-clause-reads g c =
    λ _. reads_made profile (moment_cell c.args.now) c.args.bytes.now (structured c.in-Ok.envelope) c.in-Ok.ensures.spelled
