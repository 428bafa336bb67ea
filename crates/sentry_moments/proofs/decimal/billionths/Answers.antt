use Rattle.std.proofs.Common.{◌≡◌, ◌+◌, ◌-◌, ◌∙◌, ◌++◌, ap, arith, min, length, ℕ}
use Rattle.std.specs.Str.Parse.{digits_value}
use Rattle.sentry_moments.specs.Decimal.{billionths}
use Rattle.sentry_moments.proofs.Shifts.{all_digits_append, all_digits_take, both_values, shifted, up, down}
use Rattle.sentry_moments.proofs.decimal.billionths.Goals as goal
use Rattle.sentry_moments.proofs.decimal.billionths.Goals.{then-down, else-down}

pub with_digits-value-requires-clause-are_digits : goal.with_digits-value-requires-clause-are_digits
with_digits-value-requires-clause-are_digits c = all_digits_take c.min-whole_kept.result c.args.whole.now c.requires.whole_digits

pub with_digits-value-requires-2-clause-are_digits : goal.with_digits-value-requires-2-clause-are_digits
with_digits-value-requires-2-clause-are_digits c = all_digits_take c.min-fraction_kept.result c.args.fraction.now c.requires.fraction_digits

pub returns : goal.returns
returns c =
    let ws = c.args.whole.now in
    let fs = c.args.fraction.now in
    let n = digits_value 10 (ws ++ fs) in
    let kept = both_values ws fs c.if-down.kept c.min-whole_kept.result c.min-fraction_kept.result c.with_digits-value.result c.with_digits-value-2.result c.with_zeros.result 1_000_000_000_000_000_000_000_000_000_000 c.min-whole_kept.ensures c.min-fraction_kept.ensures c.requires.whole_digits c.requires.fraction_digits c.with_digits-value.ensures.value c.with_digits-value-2.ensures.value c.with_zeros.ensures.value in
    let worth : shifted n (length (ws ++ fs)) c.if-down.kept ≡ billionths n (length fs) c.args.down c.args.exponent =
    elim c.if-down.branch [
      | then-down w ↦
          let keep : c.if-down.kept ≡ length ws + 9 - c.args.exponent = omega arith in
          rw (keep, w.if-down.true) (down ws fs c.args.exponent (all_digits_append ws fs c.requires.whole_digits c.requires.fraction_digits))
      | else-down w ↦
          let keep : c.if-down.kept ≡ length ws + 9 + c.args.exponent = omega arith in
          rw (keep, w.if-down.false) (up ws fs c.args.exponent)
    ] in
    kept ∙ ap (λ (k : ℕ). min k 1_000_000_000_000_000_000_000_000_000_000) worth
