use Rattle.std.proofs.Common.{arith}
use Rattle.std.proofs.lemmas.Str.Parse.{digit_at}
use Rattle.sentry_moments.proofs.Shifts.{digit_step}
use Rattle.sentry_moments.proofs.decimal.with_digits.Goals as goal

pub overflow_sub-digit : goal.overflow_sub-digit
overflow_sub-digit c = (digit_at c.args.digits.now c.loop-digit.digit-index c.requires.are_digits c.loop-digit-test.true).0

pub with_digit-sum-requires-clause-digit_in : goal.with_digit-sum-requires-clause-digit_in
with_digit-sum-requires-clause-digit_in c = omega (arith, digit_at c.args.digits.now c.loop-digit.digit-index c.requires.are_digits c.loop-digit-test.true)

pub loop-digit-preserved : goal.loop-digit-preserved
loop-digit-preserved c =
    (digit_step c.args.value c.loop-digit.digit-index c.loop-digit.sum _ _ c.args.digits.now c.requires.are_digits c.loop-digit-test.true c.loop-digit.invariant.0 c.with_digit-sum.ensures.value, c.with_digit-sum.ensures.bound)
