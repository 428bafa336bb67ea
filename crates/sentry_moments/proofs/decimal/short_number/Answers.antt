use Rattle.std.proofs.Common.{arith}
use Rattle.sentry_moments.proofs.Shifts.{short_value}
use Rattle.sentry_moments.proofs.decimal.short_number.Goals as goal

pub overflow_cast-result : goal.overflow_cast-result
overflow_cast-result c =
    let s = short_value c.split_digits.result.0.now c.with_digits.result _ c.split_digits.ensures.are_digits (omega arith) (omega arith) c.with_digits.ensures.value in
    omega (arith, s.1)

pub returns-clause-bound : goal.returns-clause-bound
returns-clause-bound c =
    (short_value c.split_digits.result.0.now c.with_digits.result _ c.split_digits.ensures.are_digits (omega arith) (omega arith) c.with_digits.ensures.value).1
