use Rattle.sentry_envelope.proofs.Equal.{headers_decide, envelopes_decide}
use Rattle.sentry_envelope.proofs.laws.equal_envelopes.Goals as goal

pub returns-clause-headers : goal.returns-clause-headers
returns-clause-headers c = headers_decide

pub returns-clause-envelopes : goal.returns-clause-envelopes
returns-clause-envelopes c = envelopes_decide
