-- The table of two digits.
use Rattle.std.proofs.Common.{◌≡◌, ℕ, ◌+◌, ◌*◌, ◌/◌, ◌%◌, ◌<◌, ◌==◌, true, get_or, refl, eqb-true}
use Rattle.std.proofs.lemmas.Bool.{agree_below_at}
use Rattle.sentry_moments.specs.declared.digits.TheConstants.{TWO_DIGITS}

-- a number's digits stand at twice its place
pub tens_at : (n : ℕ) → n < 100 → get_or TWO_DIGITS (2 * n) 0 ≡ 48 + n / 10 % 10
tens_at n small = eqb-true _ _ (agree_below_at (λ k. get_or TWO_DIGITS (2 * k) 0 == 48 + k / 10 % 10) (λ k. true) 100 n refl small)

pub ones_at : (n : ℕ) → n < 100 → get_or TWO_DIGITS (2 * n + 1) 0 ≡ 48 + n % 10
ones_at n small = eqb-true _ _ (agree_below_at (λ k. get_or TWO_DIGITS (2 * k + 1) 0 == 48 + k % 10) (λ k. true) 100 n refl small)
