-- Integers at the front of a text, digit by digit.
use Rattle.std.proofs.Common.{◌≡◌, ℕ, ◌+◌, ◌-◌, ◌*◌, ◌^◌, ◌<◌, ◌≤◌, zero, suc, pos, neg_ℤ, ◌-ℤ◌, SFits, w64, List, length, get_or, take, sym, ap, subst, ◌∙◌, arith}
use mir.Val.{to_z}
use Rattle.std.proofs.lemmas.Int.{ints, to_z_pos}
use Rattle.std.proofs.lemmas.Bool.Decides.{nat_tests}
use Rattle.std.proofs.lemmas.Int.Digits.{digits_more, digits_value_more, digits_value-lt}
use Rattle.std.proofs.Math.Nat.{pow-le-pow_right}
use Rattle.std.specs.Char.{digit_value, IsAsciiDigit}
use Rattle.std.specs.Str.Parse.{digits_value}
use Rattle.sentry_json.specs.Digits.{AreFirst}
use Rattle.std.proofs.lemmas.List.{length-take-le}

pub value_of_digit : (c : ℕ) → IsAsciiDigit c → digit_value c ≡ c - 48
value_of_digit c h = grind (arith, nat_tests)

pub one_first : (bytes : List ℕ) (i n : ℕ) → i < length bytes → IsAsciiDigit (get_or bytes i 0) → n * 10 + (get_or bytes i 0 - 48) < 2 ^ 64 → AreFirst bytes n i → AreFirst bytes (n * 10 + (get_or bytes i 0 - 48)) (i + 1)
one_first bytes i n lt digit fits h =
    let value = value_of_digit (get_or bytes i 0) digit in
    record {
      digits = digits_more 10 bytes i lt h.digits (omega (arith, value, digit));
      value = ap (λ m. m * 10 + (get_or bytes i 0 - 48)) h.value ∙ ap (λ d. digits_value 10 (take i bytes) * 10 + d) (sym value) ∙ sym (digits_value_more 10 bytes i lt);
      fits = fits;
      within = omega arith;
    }

pub power_below : (i j : ℕ) → i ≤ j → 10 ^ i ≤ 10 ^ j
power_below i j h = pow-le-pow_right {n = 10} (omega arith) h

-- up to 19 digits, one more fits 64 bits
pub room : (bytes : List ℕ) (i n : ℕ) → i < 19 → AreFirst bytes n i → n * 10 + 9 < 2 ^ 64
room bytes i n lt h =
    let size : length (take i bytes) ≡ i = length-take-le i bytes h.within in
    let low : digits_value 10 (take i bytes) < 10 ^ i = subst (λ k. digits_value 10 (take i bytes) < 10 ^ k) size (digits_value-lt 10 (take i bytes) h.digits) in
    let below : n < 10 ^ i = subst (λ m. m < 10 ^ i) (sym h.value) low in
    omega (arith, power_below i 18 (omega arith), below)

-- ---- a size and its negative in 64 bits

zero_minus : (n : ℕ) → pos 0 -ℤ pos n ≡ neg_ℤ (pos n)
zero_minus n = omega (arith, ints)

pub negative_fits : (n : ℕ) → n ≤ 2 ^ 63 → SFits w64 (neg_ℤ (pos n))
negative_fits zero le = record { sfits = omega arith }
negative_fits (suc n) le = record { sfits = omega arith }

pub minus_is : (n : ℕ) → n < 2 ^ 63 → pos 0 -ℤ to_z w64 n ≡ neg_ℤ (pos n)
minus_is n lt = ap (λ z. pos 0 -ℤ z) (to_z_pos w64 n lt) ∙ zero_minus n

pub minus_fits : (n : ℕ) → n < 2 ^ 63 → SFits w64 (pos 0 -ℤ to_z w64 n)
minus_fits n lt = subst (SFits w64) (sym (minus_is n lt)) (negative_fits n (omega arith))
