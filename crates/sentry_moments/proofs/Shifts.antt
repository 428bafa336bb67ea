-- Digits after digits, zeros after them, and digits that are cut off.
use Rattle.std.proofs.Common.{◌≡◌, ℕ, zero, suc, ◌+◌, ◌-◌, ◌*◌, ◌/◌, ◌^◌, ◌<◌, ◌≤◌, min, true, false, cond, ltb, List, [], ◌∷◌, ◌++◌, length, get_or, take, refl, sym, ap, ◌∙◌, arith, add-one, inl, inr, length-append}
use Rattle.std.specs.Char.{digit_value}
use Rattle.std.specs.Str.Parse.{AllDigits, digits_value, digits_value_after}
use Rattle.std.proofs.lemmas.Bool.{lt-ltb, le-ltb, cases_lt}
use Rattle.std.proofs.lemmas.Int.Digits.{digits_value_more, digits_value-lt}
use Rattle.std.proofs.lemmas.Str.Parse.{digit_at}
use Rattle.std.proofs.lemmas.List.{take-append-le, append-nil}
use Rattle.std.proofs.lemmas.Nat.{pow-add, div_below, mul-le}
use Rattle.std.proofs.Math.Nat.{pow-suc, mul_assoc, div-one, div-div-eq-div-mul, mul-div-mul_right, mul-div_cancel}
use Rattle.std.proofs.Math.Seq.{take-length, take-append-add}
use Rattle.sentry_json.proofs.Integers.{power_below}
use Rattle.sentry_moments.specs.Decimal.{billionths}
use Rattle.sentry_moments.proofs.Numerals.{digit_of}

-- ---- digits after digits

after_is : (n : ℕ) (ys : List ℕ) → digits_value_after 10 n ys ≡ n * 10 ^ length ys + digits_value_after 10 0 ys
after_is n [] = omega arith
after_is n (y ∷ ys) =
    let d = digit_value y in
    let here : digits_value_after 10 (n * 10 + d) ys ≡ (n * 10 + d) * 10 ^ length ys + digits_value_after 10 0 ys = after_is (n * 10 + d) ys in
    let alone : digits_value_after 10 (0 * 10 + d) ys ≡ (0 * 10 + d) * 10 ^ length ys + digits_value_after 10 0 ys = after_is (0 * 10 + d) ys in
    let power : 10 ^ suc (length ys) ≡ 10 ^ length ys * 10 = pow-suc 10 (length ys) in
    let sum : (n * 10 + d) * 10 ^ length ys ≡ n * (10 ^ length ys * 10) + (0 * 10 + d) * 10 ^ length ys = grind arith in
    rw power (omega (arith, here, alone, sum))

after_append : (n : ℕ) (xs ys : List ℕ) → digits_value_after 10 n (xs ++ ys) ≡ digits_value_after 10 (digits_value_after 10 n xs) ys
after_append n [] ys = refl
after_append n (x ∷ xs) ys = after_append (n * 10 + digit_value x) xs ys

pub digits_append : (xs ys : List ℕ) → digits_value 10 (xs ++ ys) ≡ digits_value 10 xs * 10 ^ length ys + digits_value 10 ys
digits_append xs ys = after_append 0 xs ys ∙ after_is (digits_value 10 xs) ys

pub all_digits_append : (xs ys : List ℕ) → AllDigits 10 xs → AllDigits 10 ys → AllDigits 10 (xs ++ ys)
all_digits_append [] ys h k = k
all_digits_append (x ∷ xs) ys h k = (h.0, all_digits_append xs ys h.1 k)

pub all_digits_take : (n : ℕ) (xs : List ℕ) → AllDigits 10 xs → AllDigits 10 (take n xs)
all_digits_take zero xs h = tt
all_digits_take (suc n) [] h = tt
all_digits_take (suc n) (x ∷ xs) h = (h.0, all_digits_take n xs h.1)

-- ---- values stop at a limit

-- what passed the limit stays there
one_more : (a d limit : ℕ) → min (min a limit * 10 + d) limit ≡ min (a * 10 + d) limit
one_more a d limit = omega arith

power_some : (k : ℕ) → 0 < 10 ^ k
power_some k = omega (arith, power_below 0 k (omega arith))

more_at_limit : (a p d limit : ℕ) → 0 < p → min (min a limit * p + d) limit ≡ min (a * p + d) limit
more_at_limit a p d limit some =
    elim (cases_lt a limit) [
      | inl lt ↦ let is : min a limit ≡ a = omega arith in rw is refl
      | inr ge ↦
          let is : min a limit ≡ limit = omega arith in
          let low : limit * 1 ≤ limit * p = mul-le limit 1 limit p (omega arith) some in
          let high : limit * 1 ≤ a * p = mul-le limit 1 a p ge some in
          rw is (omega (arith, low, high))
    ]

pub digit_step : (v i sum r limit : ℕ) (ds : List ℕ) → AllDigits 10 ds → i < length ds → sum ≡ min (v * 10 ^ i + digits_value 10 (take i ds)) limit → r ≡ min (sum * 10 + (get_or ds i 0 - 48)) limit
    → r ≡ min (v * 10 ^ (i + 1) + digits_value 10 (take (i + 1) ds)) limit
digit_step v i sum r limit ds are lt so_far next =
    let here = v * 10 ^ i + digits_value 10 (take i ds) in
    let digit = digit_of ds i are lt in
    let more = digits_value_more 10 ds i lt in
    let power : v * 10 ^ (i + 1) ≡ v * 10 ^ i * 10 = rw (add-one i, pow-suc 10 i) (sym (mul_assoc v (10 ^ i) 10)) in
    let sum : here * 10 + (get_or ds i 0 - 48) ≡ v * 10 ^ (i + 1) + digits_value 10 (take (i + 1) ds) = omega (arith, digit, more, power) in
    next ∙ ap (λ (k : ℕ). min (k * 10 + (get_or ds i 0 - 48)) limit) so_far ∙ one_more here (get_or ds i 0 - 48) limit ∙ ap (λ (k : ℕ). min k limit) sum

pub zero_step : (v i product r limit : ℕ) → product ≡ min (v * 10 ^ i) limit → r ≡ min (product * 10 + 0) limit → r ≡ min (v * 10 ^ (i + 1)) limit
zero_step v i product r limit so_far next =
    let power : v * 10 ^ i * 10 + 0 ≡ v * 10 ^ (i + 1) = rw (add-one i, pow-suc 10 i) (omega (arith, mul_assoc v (10 ^ i) 10)) in
    next ∙ ap (λ (k : ℕ). min (k * 10 + 0) limit) so_far ∙ one_more (v * 10 ^ i) 0 limit ∙ ap (λ (k : ℕ). min k limit) power

-- ---- digits that are cut off

last_off : (a d n : ℕ) → d < 10 → a * 10 + d ≡ n → n / 10 ≡ a
last_off a d n h e = omega arith

shorter : (len m : ℕ) → suc m ≤ len → len - suc m + 1 ≡ len - m
shorter len m h = omega arith

cut_off : (ds : List ℕ) (m : ℕ) → m ≤ length ds → AllDigits 10 ds → digits_value 10 (take (length ds - m) ds) ≡ digits_value 10 ds / 10 ^ m
cut_off ds zero h are =
    let all : length ds - 0 ≡ length ds = omega arith in
    ap (λ (k : ℕ). digits_value 10 (take k ds)) all ∙ ap (digits_value 10) (take-length ds) ∙ sym (div-one (digits_value 10 ds))
cut_off ds (suc m) h are =
    let j = length ds - suc m in
    let before = cut_off ds m (omega arith) are in
    let more = digits_value_more 10 ds j (omega arith) in
    let digit : digit_value (get_or ds j 0) < 10 = omega (arith, digit_of ds j are (omega arith), digit_at ds j are (omega arith)) in
    let here : digits_value 10 (take (j + 1) ds) ≡ digits_value 10 ds / 10 ^ m = ap (λ (k : ℕ). digits_value 10 (take k ds)) (shorter (length ds) m h) ∙ before in
    sym (last_off (digits_value 10 (take j ds)) (digit_value (get_or ds j 0)) (digits_value 10 ds / 10 ^ m) digit (sym more ∙ here))
    ∙ div-div-eq-div-mul (digits_value 10 ds) (10 ^ m) 10 ∙ ap (λ (k : ℕ). digits_value 10 ds / k) (sym (pow-suc 10 m))

-- n, which has some places, with so many: the last are cut off, or zeros follow
abbrev pub shifted : ℕ → ℕ → ℕ → ℕ
shifted n places keep = cond (ltb keep places) (n / 10 ^ (places - keep)) (n * 10 ^ (keep - places))

front_is : (ds : List ℕ) (keep : ℕ) → keep < length ds → AllDigits 10 ds → digits_value 10 (take keep ds) ≡ shifted (digits_value 10 ds) (length ds) keep
front_is ds keep h are =
    let back : length ds - (length ds - keep) ≡ keep = omega arith in
    ap (λ (k : ℕ). digits_value 10 (take k ds)) (sym back) ∙ cut_off ds (length ds - keep) (omega arith) are ∙ rw (lt-ltb keep (length ds) h) refl

-- so many of the digits are taken, and then zeros
pub all_kept : (ds : List ℕ) (keep taken : ℕ) → AllDigits 10 ds → taken ≡ min (length ds) keep → digits_value 10 (take taken ds) * 10 ^ (keep - taken) ≡ shifted (digits_value 10 ds) (length ds) keep
all_kept ds keep taken are taken-is =
    elim (cases_lt keep (length ds)) [
      | inl lt ↦
          let here : taken ≡ keep = omega arith in
          let none : keep - keep ≡ 0 = omega arith in
          let same : digits_value 10 (take taken ds) * 10 ^ (keep - taken) ≡ digits_value 10 (take keep ds) = rw (here, none) (omega arith) in
          same ∙ front_is ds keep lt are
      | inr le ↦
          let here : taken ≡ length ds = omega arith in
          rw (here, take-length ds, le-ltb keep (length ds) le) refl
    ]

-- ---- the digits before and after the point

both_taken : (ws fs : List ℕ) (keep wk fk : ℕ) → wk ≡ min (length ws) keep → fk ≡ min (length fs) (keep - wk) → take wk ws ++ take fk fs ≡ take (wk + fk) (ws ++ fs)
both_taken ws fs keep wk fk w f =
    elim (cases_lt keep (length ws)) [
      | inl lt ↦
          let none : fk ≡ 0 = omega arith in
          let alone : wk + 0 ≡ wk = omega arith in
          let short : wk ≤ length ws = omega arith in
          rw (none, alone) (append-nil (take wk ws) ∙ sym (take-append-le wk ws fs short))
      | inr le ↦
          let front : wk ≡ length ws = omega arith in
          rw (front, take-length ws) (sym (take-append-add ws fs fk))
    ]

pub both_values : (ws fs : List ℕ) (keep wk fk v1 v2 r limit : ℕ) → wk ≡ min (length ws) keep → fk ≡ min (length fs) (keep - wk) → AllDigits 10 ws → AllDigits 10 fs
    → v1 ≡ min (0 * 10 ^ length (take wk ws) + digits_value 10 (take wk ws)) limit
    → v2 ≡ min (v1 * 10 ^ length (take fk fs) + digits_value 10 (take fk fs)) limit
    → r ≡ min (v2 * 10 ^ (keep - wk - fk)) limit
    → r ≡ min (shifted (digits_value 10 (ws ++ fs)) (length (ws ++ fs)) keep) limit
both_values ws fs keep wk fk v1 v2 r limit wk-is fk-is w f e1 e2 e3 =
    let A = take wk ws in
    let B = take fk fs in
    let zeros = keep - wk - fk in
    let n1 : v1 ≡ min (digits_value 10 A) limit = e1 ∙ ap (λ (k : ℕ). min k limit) (omega arith) in
    let n2 : v2 ≡ min (digits_value 10 (A ++ B)) limit =
    e2 ∙ ap (λ (k : ℕ). min (k * 10 ^ length B + digits_value 10 B) limit) n1 ∙ more_at_limit (digits_value 10 A) (10 ^ length B) (digits_value 10 B) limit (power_some (length B)) ∙ ap (λ (k : ℕ). min k limit) (sym (digits_append A B)) in
    let plain : (k : ℕ) → min (k * 10 ^ zeros) limit ≡ min (k * 10 ^ zeros + 0) limit = λ k. omega arith in
    let n3 : r ≡ min (digits_value 10 (A ++ B) * 10 ^ zeros) limit =
    e3 ∙ ap (λ (k : ℕ). min (k * 10 ^ zeros) limit) n2 ∙ plain (min (digits_value 10 (A ++ B)) limit) ∙ more_at_limit (digits_value 10 (A ++ B)) (10 ^ zeros) 0 limit (power_some zeros) ∙ sym (plain (digits_value 10 (A ++ B))) in
    let zeros-is : zeros ≡ keep - (wk + fk) = omega arith in
    let count : wk + fk ≡ min (length (ws ++ fs)) keep = omega (arith, length-append ws fs) in
    n3 ∙ ap (λ (t : List ℕ). min (digits_value 10 t * 10 ^ zeros) limit) (both_taken ws fs keep wk fk wk-is fk-is) ∙ ap (λ (k : ℕ). min (digits_value 10 (take (wk + fk) (ws ++ fs)) * 10 ^ k) limit) zeros-is
    ∙ ap (λ (k : ℕ). min k limit) (all_kept (ws ++ fs) keep (wk + fk) (all_digits_append ws fs w f) count)

-- ---- the exponent

power_off : (n a b : ℕ) → n * 10 ^ a / 10 ^ (a + b) ≡ n / 10 ^ b
power_off n a b =
    let sum : a + b ≡ b + a = omega arith in
    rw (sum, pow-add 10 b a) (mul-div-mul_right n (10 ^ b) (power_some a))

pub power_on : (n a b : ℕ) → n * 10 ^ (a + b) / 10 ^ a ≡ n * 10 ^ b
power_on n a b =
    let sum : a + b ≡ b + a = omega arith in
    let apart : n * (10 ^ b * 10 ^ a) ≡ n * 10 ^ b * 10 ^ a = sym (mul_assoc n (10 ^ b) (10 ^ a)) in
    rw (sum, pow-add 10 b a, apart) (mul-div_cancel (n * 10 ^ b) (power_some a))

below_power : (n k : ℕ) → n < 10 ^ k → n / 10 ^ k ≡ 0
below_power n k h = omega (arith, div_below n (10 ^ k) 1 (power_some k) (omega arith))

-- n times 10 ^ above over 10 ^ below, with so many digits kept
ratio : (n len above below keep : ℕ) → keep + below ≡ len + above → shifted n len keep ≡ n * 10 ^ above / 10 ^ below
ratio n len above below keep sum =
    elim (cases_lt keep len) [
      | inl lt ↦
          let b = len - keep in
          let split : below ≡ above + b = omega arith in
          rw (lt-ltb keep len lt, split) (sym (power_off n above b))
      | inr le ↦
          let b = keep - len in
          let split : above ≡ below + b = omega arith in
          rw (le-ltb keep len le, split) (sym (power_on n below b))
    ]

nothing_kept : (n len below : ℕ) → n < 10 ^ len → len + 9 < below → shifted n len 0 ≡ n * 10 ^ 9 / 10 ^ below
nothing_kept n len below small far =
    let b = below - 9 in
    let split : below ≡ 9 + b = omega arith in
    let less : n < 10 ^ b = omega (arith, power_below len b (omega arith)) in
    let right : n * 10 ^ 9 / 10 ^ below ≡ 0 = ap (λ (k : ℕ). n * 10 ^ 9 / 10 ^ k) split ∙ power_off n 9 b ∙ below_power n b less in
    elim (cases_lt 0 len) [
      | inl lt ↦
          let all : len - 0 ≡ len = omega arith in
          rw (lt-ltb 0 len lt, all, right) (below_power n len small)
      | inr le ↦
          let empty : len ≡ 0 = omega arith in
          let none : n ≡ 0 = let h : n < 10 ^ 0 = rw empty at small in omega arith in
          rw (le-ltb 0 len le, right, none) (omega arith)
    ]

pub up : (ws fs : List ℕ) (x : ℕ) → shifted (digits_value 10 (ws ++ fs)) (length (ws ++ fs)) (length ws + 9 + x) ≡ billionths (digits_value 10 (ws ++ fs)) (length fs) false x
up ws fs x = ratio (digits_value 10 (ws ++ fs)) (length (ws ++ fs)) (9 + x) (length fs) (length ws + 9 + x) (omega (arith, length-append ws fs))

pub down : (ws fs : List ℕ) (x : ℕ) → AllDigits 10 (ws ++ fs) → shifted (digits_value 10 (ws ++ fs)) (length (ws ++ fs)) (length ws + 9 - x) ≡ billionths (digits_value 10 (ws ++ fs)) (length fs) true x
down ws fs x are =
    let n = digits_value 10 (ws ++ fs) in
    let len = length-append ws fs in
    elim (cases_lt (length ws + 9) x) [
      | inl lt ↦
          let none : length ws + 9 - x ≡ 0 = omega arith in
          rw none (nothing_kept n (length (ws ++ fs)) (length fs + x) (digits_value-lt 10 (ws ++ fs) are) (omega (arith, len)))
      | inr le ↦ ratio n (length (ws ++ fs)) 9 (length fs + x) (length ws + 9 - x) (omega (arith, len))
    ]

-- ---- a number of one to three digits

pub short_value : (ds : List ℕ) (r limit : ℕ) → AllDigits 10 ds → length ds ≤ 3 → 1_000 ≤ limit → r ≡ min (0 * 10 ^ length ds + digits_value 10 ds) limit → (r ≡ digits_value 10 ds) × (r < 1_000)
short_value ds r limit are short room e =
    let below : digits_value 10 ds < 10 ^ length ds = digits_value-lt 10 ds are in
    let power : 10 ^ length ds ≤ 10 ^ 3 = power_below (length ds) 3 short in
    (omega arith, omega arith)

-- ---- digits that are not all 0

both_positive : (m n : ℕ) → 0 < m → 0 < n → ltb 0 m ≡ ltb 0 n
both_positive m n h k = lt-ltb 0 m h ∙ sym (lt-ltb 0 n k)

pub whole_positive : (ws fs : List ℕ) (r limit : ℕ) → r ≡ min (0 * 10 ^ length ws + digits_value 10 ws) limit → 0 < r → ltb 0 r ≡ ltb 0 (digits_value 10 (ws ++ fs))
whole_positive ws fs r limit e some =
    let power : 1 * 1 ≤ digits_value 10 ws * 10 ^ length fs = mul-le 1 1 (digits_value 10 ws) (10 ^ length fs) (omega arith) (power_some (length fs)) in
    both_positive r (digits_value 10 (ws ++ fs)) some (omega (arith, digits_append ws fs, power))

pub fraction_positive : (ws fs : List ℕ) (v r limit : ℕ) → 0 < limit → v ≡ min (0 * 10 ^ length ws + digits_value 10 ws) limit → v ≤ 0 → r ≡ min (0 * 10 ^ length fs + digits_value 10 fs) limit → ltb 0 r ≡ ltb 0 (digits_value 10 (ws ++ fs))
fraction_positive ws fs v r limit room e none f =
    let zero-is : digits_value 10 ws ≡ 0 = omega arith in
    let same : digits_value 10 (ws ++ fs) ≡ digits_value 10 fs = digits_append ws fs ∙ rw zero-is (omega arith) in
    elim (cases_lt 0 r) [
      | inl lt ↦ both_positive r (digits_value 10 (ws ++ fs)) lt (omega (arith, same))
      | inr le ↦ let none : digits_value 10 (ws ++ fs) ≡ r = omega (arith, same) in ap (ltb 0) (sym none)
    ]
