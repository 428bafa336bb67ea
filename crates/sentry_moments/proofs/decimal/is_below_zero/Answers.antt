use Rattle.std.proofs.Common.{arith}
use Rattle.sentry_moments.proofs.Shifts.{whole_positive, fraction_positive}
use Rattle.sentry_moments.proofs.decimal.is_below_zero.Goals as goal

pub returns-then-with_digits-gt0 : goal.returns-then-with_digits-gt0
returns-then-with_digits-gt0 c =
    rw c.if-negative.true (whole_positive c.args.whole.now c.args.fraction.now c.with_digits.result 1_000_000_000_000_000_000_000_000_000_000 c.with_digits.ensures.value c.if-with_digits-gt0.true)

pub returns-else-with_digits-gt0 : goal.returns-else-with_digits-gt0
returns-else-with_digits-gt0 c =
    rw c.if-negative.true (fraction_positive c.args.whole.now c.args.fraction.now c.with_digits.result c.with_digits-else-with_digits-gt0.result 1_000_000_000_000_000_000_000_000_000_000 (omega arith) c.with_digits.ensures.value c.if-with_digits-gt0.false c.with_digits-else-with_digits-gt0.ensures.value)
