use Rattle.std.proofs.Common.{◌≡◌, ◌+◌, ◌*◌, ◌/◌, ◌%◌, ◌∙◌, arith}
use Rattle.sentry_moments.proofs.Choices.{some_and}
use Rattle.sentry_moments.proofs.DecimalTexts.{not_refused, read_number}
use Rattle.sentry_moments.proofs.moment.Moment.from_decimal.Goals as goal

pub returns-in_err-billionths-clause-only : goal.returns-in_err-billionths-clause-only
returns-in_err-billionths-clause-only c secs nanos h d = absurd (not_refused _ _ _ _ c.read.ensures c.in_err-billionths.ensures.value (omega (arith, h)) d)

pub returns-clause-only : goal.returns-clause-only
returns-clause-only c secs nanos h d =
    let x = c.in_ok-billionths.billionths in
    let same : x ≡ secs * 1_000_000_000 + nanos = read_number _ _ x _ _ c.read.ensures c.in_ok-billionths.ensures.value d in
    let s : x / 1_000_000_000 ≡ secs = omega (arith, h) in
    let n : x % 1_000_000_000 ≡ nanos = omega (arith, h) in
    some_and c.new.result (c.new.ensures.exactly.1 (omega (arith, h, s), omega (arith, h, n))) c.new.ensures.same (λ m e. (e.0 ∙ s, e.1 ∙ n))
