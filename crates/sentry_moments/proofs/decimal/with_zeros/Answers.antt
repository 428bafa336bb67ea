use Rattle.sentry_moments.proofs.Shifts.{zero_step}
use Rattle.sentry_moments.proofs.decimal.with_zeros.Goals as goal

pub loop-preserved : goal.loop-preserved
loop-preserved c =
    (zero_step c.args.value c.loop.counter c.loop.product _ _ c.loop.invariant.0 c.with_digit-product.ensures.value, c.with_digit-product.ensures.bound)
