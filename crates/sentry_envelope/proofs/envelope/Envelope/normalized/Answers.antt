use Rattle.sentry_envelope.proofs.EnvelopeMade.{answers_normal, answers_own, answers_readable, answers_read_back}
use Rattle.sentry_envelope.proofs.envelope.Envelope.normalized.Goals as goal

pub returns-clause-normal : goal.returns-clause-normal
returns-clause-normal c = answers_normal c.args.self.now c.remake.result c.remake.ensures

pub returns-clause-own : goal.returns-clause-own
returns-clause-own c = answers_own c.args.self.now c.remake.result c.is_plain-is_plain.result c.remake.ensures c.is_plain-is_plain.ensures.plain c.is_plain-is_plain.ensures.stored

pub returns-clause-readable : goal.returns-clause-readable
returns-clause-readable c = answers_readable c.args.self.now c.remake.result c.is_plain-is_plain.result c.remake.ensures c.is_plain-is_plain.ensures.plain c.is_plain-is_plain.ensures.stored

pub returns-clause-read_back : goal.returns-clause-read_back
returns-clause-read_back c = answers_read_back c.args.self.now c.remake.result c.is_plain-is_plain.result c.remake.ensures c.is_plain-is_plain.ensures.plain c.is_plain-is_plain.ensures.stored
