-- Printed texts are short.
use Rattle.std.proofs.Common.{◌≡◌, ◌+◌, ◌/◌, ◌%◌, ◌<◌, ◌≤◌, ◌^◌, ℕ, Bool, true, false, cond, eqb, List, [], ◌∷◌, ◌++◌, length, arith, length-append}
use Rattle.std.specs.Fmt.{decimal}
use Rattle.std.proofs.lemmas.Fmt.{length-decimal-le}
use Rattle.sentry_tables.specs.Spelling.{FitsRoom}
use Rattle.sentry_moments.specs.Decimal.{decimal_text}
use Rattle.sentry_moments.specs.Digits.{digits, digits_without_closing_zeros, fraction_text}
use Rattle.sentry_moments.specs.Rfc3339.{Civil, date_text, clock_text}
use Rattle.sentry_moments.specs.SampleRand.{millionths, sample_rand_text}
use Rattle.sentry_moments.proofs.Places.{length-digits, is_cut}

fraction_size : (n : ℕ) → length (fraction_text n) ≤ 10
fraction_size n = go (eqb n 0)
  where
    go : (b : Bool) → length (cond b [] (46 ∷ digits_without_closing_zeros 9 n)) ≤ 10
    go true = omega arith
    go false = omega (arith, (is_cut 9 n).count)

three_size : (byte : ℕ) (a b c : List ℕ) → length (a ++ (byte ∷ (b ++ (byte ∷ c)))) ≡ length a + length b + length c + 2
three_size byte a b c = omega (arith, length-append a (byte ∷ (b ++ (byte ∷ c))), length-append b (byte ∷ c))

pub date_size : (c : Civil) → length (date_text c) ≡ 10
unfolding date_text
date_size c = omega (arith, three_size 45 (digits 4 c.year) (digits 2 c.month) (digits 2 c.day), length-digits 4 c.year, length-digits 2 c.month, length-digits 2 c.day)

pub clock_size : (c : Civil) → length (clock_text c) ≡ 8
unfolding clock_text
clock_size c = omega (arith, three_size 58 (digits 2 c.hour) (digits 2 c.minute) (digits 2 c.second), length-digits 2 c.hour, length-digits 2 c.minute, length-digits 2 c.second)

pub rate_fits : (n : ℕ) → n < 2 ^ 64 → FitsRoom (decimal_text (n / 10 ^ 9) (n % 10 ^ 9))
rate_fits n small =
    let whole : n / 10 ^ 9 < 2 ^ 64 = omega (arith, small) in
    omega (arith, length-append (decimal (n / 10 ^ 9)) (fraction_text (n % 10 ^ 9)), length-decimal-le 20 (n / 10 ^ 9) (omega arith) (omega arith) whole, fraction_size (n % 10 ^ 9))

pub sample_rand_fits : (b : ℕ) → FitsRoom (sample_rand_text b)
sample_rand_fits b = omega (arith, length-digits 6 (millionths b))
