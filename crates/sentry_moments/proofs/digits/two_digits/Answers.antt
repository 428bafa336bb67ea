use Rattle.sentry_moments.proofs.TwoDigits.{tens_at, ones_at}
use Rattle.sentry_moments.proofs.digits.two_digits.Goals as goal

pub returns-clause-tens : goal.returns-clause-tens
returns-clause-tens c = tens_at c.args.number c.requires

pub returns-clause-ones : goal.returns-clause-ones
returns-clause-ones c = ones_at c.args.number c.requires
