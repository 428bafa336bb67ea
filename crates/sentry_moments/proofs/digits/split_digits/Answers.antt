use Rattle.sentry_moments.proofs.Fronts.{front_digits_are}
use Rattle.sentry_moments.proofs.digits.split_digits.Goals as goal

pub returns-clause-are_digits : goal.returns-clause-are_digits
returns-clause-are_digits c = rw (c.split_at.ensures.front, c.digits_len.ensures.len) (front_digits_are c.args.text.now)
