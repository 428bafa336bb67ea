-- What a width with zeros writes is a number of digits.
use Rattle.std.proofs.Common.{◌≡◌, ℕ, zero, suc, ◌+◌, ◌-◌, ◌*◌, ◌/◌, ◌%◌, ◌^◌, ◌<◌, ◌≤◌, true, false, eqb, List, [], ◌∷◌, ◌++◌, length, replicate, refl, sym, ap, ◌∙◌, append_assoc, arith, inl, inr, add-one, length-append}
use Rattle.std.specs.Fmt.{decimal, padded_integral, format_spec, char_count}
use Rattle.std.proofs.lemmas.Fmt.{decimal_digit, decimal_step}
use Rattle.std.proofs.lemmas.Bool.{cases_lt, eq-eqb}
use Rattle.std.proofs.lemmas.Bool.Decides.{nat_tests}
use Rattle.std.proofs.lemmas.List.{append-nil, replicate-append-replicate}
use Rattle.std.proofs.Math.Nat.{pow-suc}
use Rattle.sentry_moments.specs.Digits.{digits, digits_without_closing_zeros}
use Rattle.sentry_moments.specs.Rfc3339.{Civil, date_text, clock_text}

pub differs : (m n : ℕ) → ¬ (m ≡ n) → eqb m n ≡ false
differs m n h = grind (arith, nat_tests)

all_zeros : (w : ℕ) → digits w 0 ≡ replicate w 48
unfolding digits
all_zeros zero = refl
all_zeros (suc w) =
    let none : 0 / 10 ≡ 0 = omega arith in
    ap (λ (k : ℕ). digits w k ++ (48 + 0 % 10) ∷ []) none ∙ ap (λ (t : List ℕ). t ++ 48 ∷ []) (all_zeros w) ∙ replicate-append-replicate w 1 48 ∙ ap (λ (k : ℕ). replicate k 48) (add-one w)

pub digits-suc : (w n : ℕ) → digits (suc w) n ≡ digits w (n / 10) ++ (48 + n % 10) ∷ []
unfolding digits
digits-suc w n = refl

one_digit : (w n : ℕ) → n < 10 → replicate (suc w - length (decimal n)) 48 ++ decimal n ≡ digits (suc w) n
one_digit w n small =
    let first : decimal n ≡ (48 + n) ∷ [] = decimal_digit n small in
    let none : n / 10 ≡ 0 = omega arith in
    let same : n % 10 ≡ n = omega arith in
    let pad : suc w - 1 ≡ w = omega arith in
    rw (first, pad, digits-suc w n, none, same, all_zeros w) refl

more_digits : (w n : ℕ) → 10 ≤ n → n < 2 ^ 64 → replicate (w - length (decimal (n / 10))) 48 ++ decimal (n / 10) ≡ digits w (n / 10) → replicate (suc w - length (decimal n)) 48 ++ decimal n ≡ digits (suc w) n
more_digits w n large small before =
    let split : decimal n ≡ decimal (n / 10) ++ ((48 + n % 10) ∷ []) = decimal_step n large small in
    let longer : length (decimal n) ≡ length (decimal (n / 10)) + 1 = ap length split ∙ length-append (decimal (n / 10)) ((48 + n % 10) ∷ []) in
    let pad : suc w - length (decimal n) ≡ w - length (decimal (n / 10)) = omega arith in
    ap (λ (k : ℕ). replicate k 48 ++ decimal n) pad ∙ ap (λ (t : List ℕ). replicate (w - length (decimal (n / 10))) 48 ++ t) split
    ∙ sym (append_assoc (replicate (w - length (decimal (n / 10))) 48) (decimal (n / 10)) ((48 + n % 10) ∷ []))
    ∙ ap (λ (t : List ℕ). t ++ (48 + n % 10) ∷ []) before ∙ sym (digits-suc w n)

tenth_below : (w n : ℕ) → n < 10 ^ suc w → n / 10 < 10 ^ w
tenth_below w n h = let k : n < 10 ^ w * 10 = rw (pow-suc 10 w) at h in omega arith

pub zeros_before : (w n : ℕ) → 0 < w → n < 10 ^ w → n < 2 ^ 64 → replicate (w - length (decimal n)) 48 ++ decimal n ≡ digits w n
zeros_before zero n some h small = absurd (omega (arith, some))
zeros_before (suc zero) n some h small = one_digit 0 n h
zeros_before (suc (suc w)) n some h small =
    elim (cases_lt n 10) [
      | inl lt ↦ one_digit (suc w) n lt
      | inr ge ↦ more_digits (suc w) n ge small (zeros_before (suc w) (n / 10) (omega arith) (tenth_below (suc w) n h) (omega arith))
    ]

no_sign : (w k : ℕ) → w - k - 0 - 0 ≡ w - k
no_sign w k = omega arith

pub padded_is : (w n : ℕ) → padded_integral (format_spec 32 0 4 w (2 ^ 64 - 1)) false [] (decimal n) ≡ replicate (w - length (decimal n)) 48 ++ decimal n
unfolding padded_integral char_count
padded_is w n =
    rw (no_sign w (length (decimal n)), append-nil (decimal n)) refl

-- what `{n:0w}` writes
pub padded_digits : (w n : ℕ) → 0 < w → n < 10 ^ w → n < 2 ^ 64 → padded_integral (format_spec 32 0 4 w (2 ^ 64 - 1)) false [] (decimal n) ≡ digits w n
padded_digits w n some h small = padded_is w n ∙ zeros_before w n some h small

-- ---- closing zeros

pub some_place : (places n : ℕ) → 0 < n → n < 10 ^ places → 0 < places
some_place zero n some h = absurd (omega (arith, h))
some_place (suc places) n some h = omega arith

pub zero_cut : (places n : ℕ) → 0 < places → n % 10 ≡ 0 → digits_without_closing_zeros places n ≡ digits_without_closing_zeros (places - 1) (n / 10)
unfolding digits_without_closing_zeros
zero_cut zero n some e = absurd (omega (arith, some))
zero_cut (suc places) n some e =
    let one : suc places - 1 ≡ places = omega arith in
    let test : eqb (n % 10) 0 ≡ true = eq-eqb (n % 10) 0 e in
    rw (test, one) refl

pub no_zero : (places n : ℕ) → 0 < places → ¬ (n % 10 ≡ 0) → digits places n ≡ digits_without_closing_zeros places n
unfolding digits_without_closing_zeros
no_zero zero n some e = absurd (omega (arith, some))
no_zero (suc places) n some e =
    let test : eqb (n % 10) 0 ≡ false = differs (n % 10) 0 e in
    rw test refl

pub cut_below : (places n : ℕ) → 0 < places → n < 10 ^ places → n / 10 < 10 ^ (places - 1)
cut_below zero n some h = absurd (omega (arith, some))
cut_below (suc places) n some h = let one : suc places - 1 ≡ places = omega arith in rw one (tenth_below places n h)

pub thousand_cut : (places n : ℕ) → 3 ≤ places → n % 1_000 ≡ 0 → digits_without_closing_zeros places n ≡ digits_without_closing_zeros (places - 3) (n / 1_000)
thousand_cut places n long e =
    let one = zero_cut places n (omega (arith, long)) (omega (arith, e)) in
    let two = zero_cut (places - 1) (n / 10) (omega (arith, long)) (omega (arith, e)) in
    let three = zero_cut (places - 1 - 1) (n / 10 / 10) (omega (arith, long)) (omega (arith, e)) in
    let left : places - 1 - 1 - 1 ≡ places - 3 = omega arith in
    let number : n / 10 / 10 / 10 ≡ n / 1_000 = omega arith in
    one ∙ two ∙ three ∙ (λ i. digits_without_closing_zeros (left i) (number i))

-- ---- digits one by one

pub two_digits : (n : ℕ) → digits 2 n ≡ (48 + n / 10 % 10) ∷ (48 + n % 10) ∷ []
unfolding digits
two_digits n = refl

-- the same of a number of which the last two digits are taken
pub last_two_digits : (n : ℕ) → digits 2 n ≡ (48 + n % 100 / 10 % 10) ∷ (48 + n % 100 % 10) ∷ []
unfolding digits
last_two_digits n =
    let tens : n % 100 / 10 % 10 ≡ n / 10 % 10 = omega arith in
    let ones : n % 100 % 10 ≡ n % 10 = omega arith in
    rw (tens, ones) refl

pub four_digits : (n : ℕ) → digits 4 n ≡ (48 + n / 100 % 100 / 10 % 10) ∷ (48 + n / 100 % 100 % 10) ∷ (48 + n % 100 / 10 % 10) ∷ (48 + n % 100 % 10) ∷ []
unfolding digits
four_digits n =
    let two : n / 10 / 10 ≡ n / 100 = omega arith in
    let first : n / 100 % 100 / 10 % 10 ≡ n / 100 / 10 % 10 = omega arith in
    let second : n / 100 % 100 % 10 ≡ n / 100 % 10 = omega arith in
    let third : n % 100 / 10 % 10 ≡ n / 10 % 10 = omega arith in
    let fourth : n % 100 % 10 ≡ n % 10 = omega arith in
    rw (two, first, second, third, fourth) refl

pub nine_digits : (n : ℕ) → digits 9 n ≡
    (48 + n / 100_000_000 % 10) ∷ (48 + n / 1_000_000 % 100 / 10 % 10) ∷ (48 + n / 1_000_000 % 100 % 10) ∷ (48 + n / 10_000 % 100 / 10 % 10) ∷ (48 + n / 10_000 % 100 % 10) ∷ (48 + n / 100 % 100 / 10 % 10) ∷ (48 + n / 100 % 100 % 10) ∷ (48 + n % 100 / 10 % 10) ∷ (48 + n % 100 % 10) ∷ []
unfolding digits
nine_digits n =
    let two : n / 10 / 10 ≡ n / 100 = omega arith in
    let four : n / 100 / 10 / 10 ≡ n / 10_000 = omega arith in
    let six : n / 10_000 / 10 / 10 ≡ n / 1_000_000 = omega arith in
    let eight : n / 1_000_000 / 10 / 10 ≡ n / 100_000_000 = omega arith in
    let a : n / 1_000_000 % 100 / 10 % 10 ≡ n / 1_000_000 / 10 % 10 = omega arith in
    let b : n / 1_000_000 % 100 % 10 ≡ n / 1_000_000 % 10 = omega arith in
    let c : n / 10_000 % 100 / 10 % 10 ≡ n / 10_000 / 10 % 10 = omega arith in
    let d : n / 10_000 % 100 % 10 ≡ n / 10_000 % 10 = omega arith in
    let e : n / 100 % 100 / 10 % 10 ≡ n / 100 / 10 % 10 = omega arith in
    let f : n / 100 % 100 % 10 ≡ n / 100 % 10 = omega arith in
    let g : n % 100 / 10 % 10 ≡ n / 10 % 10 = omega arith in
    let h : n % 100 % 10 ≡ n % 10 = omega arith in
    rw (two, four, six, eight, a, b, c, d, e, f, g, h) refl

pub after_the_time : (c : Civil) (rest : List ℕ) → (date_text c ++ 84 ∷ clock_text c) ++ rest ≡ date_text c ++ (84 ∷ (clock_text c ++ rest))
after_the_time c rest = append_assoc (date_text c) (84 ∷ clock_text c) rest
