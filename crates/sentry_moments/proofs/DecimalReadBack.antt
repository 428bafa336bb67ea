-- Printed decimals are worth what they were printed from.
use Rattle.std.proofs.Common.{◌≡◌, ℕ, zero, suc, ◌+◌, ◌*◌, ◌/◌, ◌%◌, ◌^◌, ◌<◌, Bool, true, false, cond, eqb, List, [], ◌∷◌, ◌++◌, length, replicate, refl, sym, ap, subst, ◌∙◌, arith}
use Rattle.std.specs.Fmt.{decimal}
use Rattle.std.specs.Str.Parse.{digits_value, digits_value_after}
use Rattle.std.proofs.lemmas.Bool.{eqb-true}
use Rattle.std.proofs.lemmas.Fmt.{decimal_is_IsNumeral}
use Rattle.std.proofs.lemmas.List.{append-nil, length-replicate}
use Rattle.std.proofs.lemmas.Nat.{pow-add}
use Rattle.std.proofs.Math.Nat.{add-mul, mul_assoc}
use Rattle.sentry_moments.specs.Decimal.{NoSign, IsPoint, NoPoint, Point, NoExponent, IsDecimal, Billionths, billionths, decimal_text}
use Rattle.sentry_moments.specs.Digits.{digits, digits_without_closing_zeros, fraction_text}
use Rattle.sentry_moments.specs.SampleRand.{millionths, sample_rand_text}
use Rattle.sentry_moments.proofs.Places.{IsCut, is_cut, value_of_digits, length-digits, are_digits}
use Rattle.sentry_moments.proofs.Shifts.{digits_append, power_on}

zeros_are_worth_nothing : (k : ℕ) → digits_value_after 10 0 (replicate k 48) ≡ 0
zeros_are_worth_nothing zero = refl
zeros_are_worth_nothing (suc k) = zeros_are_worth_nothing k

-- a point and places, or nothing, and what they are worth
record IsPlaces (part : ℕ) (text : List ℕ) : Type 0 where
  pub places : List ℕ
  pub zeros : ℕ
  pub is_point : IsPoint text places
  pub count : length places + zeros ≡ 9
  pub worth_is : part ≡ digits_value 10 places * 10 ^ zeros

cut_worth : (part : ℕ) (xs : List ℕ) → part < 10 ^ 9 → (c : IsCut 9 part xs) → part ≡ digits_value 10 xs * 10 ^ c.zeros
cut_worth part xs h c =
    let zeros = replicate c.zeros 48 in
    let value : digits_value 10 (digits 9 part) ≡ digits_value 10 xs * 10 ^ length zeros + digits_value 10 zeros = ap (digits_value 10) c.whole ∙ digits_append xs zeros in
    let len : length zeros ≡ c.zeros = length-replicate c.zeros 48 in
    sym (value_of_digits 9 part h) ∙ value ∙ rw (len, zeros_are_worth_nothing c.zeros) (omega arith)

places_of : (part : ℕ) (b : Bool) → eqb part 0 ≡ b → part < 10 ^ 9 → IsPlaces part (cond b [] (46 ∷ digits_without_closing_zeros 9 part))
places_of part true e h = record { places = []; zeros = 9; is_point = NoPoint; count = refl; worth_is = eqb-true part 0 e }
places_of part false e h =
    let xs = digits_without_closing_zeros 9 part in
    let c = is_cut 9 part in
    record { places = xs; zeros = c.zeros; is_point = Point xs c.digits_are; count = c.count; worth_is = cut_worth part xs h c }

-- so many units and billionths
sum_is : (whole part p n len more : ℕ) → len + more ≡ 9 → n ≡ whole * 10 ^ len + p → part ≡ p * 10 ^ more → billionths n len false 0 ≡ whole * 10 ^ 9 + part
sum_is whole part p n len more count n-is part-is =
    let quotient : n * 10 ^ 9 / 10 ^ len ≡ n * 10 ^ more = ap (λ (k : ℕ). n * 10 ^ k / 10 ^ len) (sym count) ∙ power_on n len more in
    let powers : 10 ^ len * 10 ^ more ≡ 10 ^ 9 = sym (pow-add 10 len more) ∙ ap (λ (k : ℕ). 10 ^ k) count in
    let product : n * 10 ^ more ≡ whole * (10 ^ len * 10 ^ more) + p * 10 ^ more = ap (λ (k : ℕ). k * 10 ^ more) n-is ∙ add-mul (whole * 10 ^ len) p (10 ^ more) ∙ ap (λ (k : ℕ). k + p * 10 ^ more) (mul_assoc whole (10 ^ len) (10 ^ more)) in
    quotient ∙ product ∙ ap (λ (k : ℕ). whole * k + p * 10 ^ more) powers ∙ ap (λ (k : ℕ). whole * 10 ^ 9 + k) (sym part-is)

regroup : (w p : List ℕ) → w ++ p ≡ [] ++ w ++ p ++ []
regroup w p = sym (append-nil (w ++ p))

pub decimal_reads_back : (whole part : ℕ) → whole < 2 ^ 64 → part < 10 ^ 9 → IsDecimal (decimal_text whole part) (Billionths (whole * 10 ^ 9 + part))
decimal_reads_back whole part h k =
    let n = decimal_is_IsNumeral whole h in
    let p = places_of part (eqb part 0) refl k in
    let number : digits_value 10 (decimal whole ++ p.places) ≡ whole * 10 ^ length p.places + digits_value 10 p.places = digits_append (decimal whole) p.places ∙ ap (λ (k : ℕ). k * 10 ^ length p.places + digits_value 10 p.places) n.1 in
    record {
      negative = false;
      sign = [];
      whole = decimal whole;
      point = fraction_text part;
      fraction = p.places;
      exponent = [];
      down = false;
      x = 0;
      shape = regroup (decimal whole) (fraction_text part);
      is_sign = NoSign;
      is_whole = n.0.1;
      is_point = p.is_point;
      some_digit = omega (arith, n.0.0);
      is_exponent = NoExponent;
      is_worth = ap Billionths (sym (sum_is whole part (digits_value 10 p.places) (digits_value 10 (decimal whole ++ p.places)) (length p.places) p.zeros p.count number p.worth_is));
    }

pub rate_reads_back : (n : ℕ) → n < 2 ^ 64 → IsDecimal (decimal_text (n / 10 ^ 9) (n % 10 ^ 9)) (Billionths n)
rate_reads_back n h =
    let sum : n / 10 ^ 9 * 10 ^ 9 + n % 10 ^ 9 ≡ n = omega arith in
    subst (λ (k : ℕ). IsDecimal (decimal_text (n / 10 ^ 9) (n % 10 ^ 9)) (Billionths k)) sum (decimal_reads_back (n / 10 ^ 9) (n % 10 ^ 9) (omega arith) (omega arith))

-- ---- random sampling values

six_places : (m : ℕ) → m < 10 ^ 6 → IsDecimal (48 ∷ 46 ∷ digits 6 m) (Billionths (1000 * m))
six_places m h =
    let number : digits_value 10 ((48 ∷ []) ++ digits 6 m) ≡ m = value_of_digits 6 m h in
    let value : billionths (digits_value 10 ((48 ∷ []) ++ digits 6 m)) (length (digits 6 m)) false 0 ≡ 1000 * m = rw (number, length-digits 6 m) (omega arith) in
    record {
      negative = false;
      sign = [];
      whole = 48 ∷ [];
      point = 46 ∷ digits 6 m;
      fraction = digits 6 m;
      exponent = [];
      down = false;
      x = 0;
      shape = regroup (48 ∷ []) (46 ∷ digits 6 m);
      is_sign = NoSign;
      is_whole = (omega arith, tt);
      is_point = Point (digits 6 m) (are_digits 6 m);
      some_digit = omega arith;
      is_exponent = NoExponent;
      is_worth = ap Billionths (sym value);
    }

pub sample_rand_reads : (b : ℕ) → IsDecimal (sample_rand_text b) (Billionths (1000 * millionths b))
sample_rand_reads b = six_places (millionths b) (omega arith)
