use Rattle.sentry_envelope.specs.EnvelopeView.{empty}
use Rattle.sentry_envelope.proofs.envelope.Envelope.from_item.Goals as goal

pub returns-in-Ok-clause-ok : goal.returns-in-Ok-clause-ok
returns-in-Ok-clause-ok c = c.in-Ok.ensures.added empty c.new-envelope.ensures.fresh
