-- How a random sampling value is written.
use Rattle.std.specs.Prelude.{◌≡◌, ℕ, ◌+◌, ◌*◌, ◌/◌, ◌%◌, ◌≤◌, ◌⊎◌, min, nat_lt, List, ◌∷◌, if◌then◌else◌}
use Rattle.sentry_moments.specs.Characters.{full_stop, zero_digit}
use Rattle.sentry_moments.specs.Digits.{digits}

-- the number of thousands nearest to b, and of two the even one
abbrev pub nearest_thousand : ℕ → ℕ
nearest_thousand b =
    if nat_lt (b % 1000) 500 then b / 1000
    else (if nat_lt 500 (b % 1000) then b / 1000 + 1 else b / 1000 + b / 1000 % 2)

-- billionths in millionths, and never a whole unit
abbrev pub millionths : ℕ → ℕ
millionths billionths = min (nearest_thousand billionths) 999_999

-- `0.` and six places
abbrev pub sample_rand_text : ℕ → List ℕ
sample_rand_text billionths = zero_digit ∷ full_stop ∷ digits 6 (millionths billionths)

-- m thousands are nearest to b, and of two m is even
pub record IsNearestEven (b m : ℕ) : Type 0 where
  pub above : 1000 * m ≤ b + 500
  pub below : b ≤ 1000 * m + 500
  pub tie : (1000 * m ≡ b + 500) ⊎ (b ≡ 1000 * m + 500) → m % 2 ≡ 0
