-- Numbers in a fixed number of places, and places without closing zeros.
use Rattle.std.proofs.Common.{◌≡◌, ℕ, zero, suc, ◌+◌, ◌*◌, ◌/◌, ◌%◌, ◌^◌, ◌<◌, Bool, true, false, eqb, List, [], ◌∷◌, ◌++◌, ◌-◌, ◌≤◌, take, drop, set, take-add, length, replicate, refl, sym, ap, subst, ◌∙◌, append_assoc, arith, add-one, length-append}
use Rattle.std.specs.Char.{digit_value}
use Rattle.std.specs.Str.Parse.{AllDigits, digits_value}
use Rattle.std.proofs.lemmas.Bool.{eqb-true, eq-eqb}
use Rattle.std.proofs.lemmas.Bool.Decides.{nat_tests}
use Rattle.std.proofs.lemmas.Int.Digits.{digits_value_push}
use Rattle.std.proofs.lemmas.List.{append-nil, replicate-append-replicate, drop-set}
use Rattle.std.proofs.Math.Nat.{pow-suc}
use Rattle.sentry_moments.specs.Digits.{digits, digits_without_closing_zeros}
use Rattle.sentry_moments.proofs.Padding.{digits-suc}

digit_is : (d : ℕ) → d < 10 → digit_value (48 + d) ≡ d
digit_is d h = grind (arith, nat_tests)

pub value_of_digits : (w n : ℕ) → n < 10 ^ w → digits_value 10 (digits w n) ≡ n
unfolding digits
value_of_digits zero n h = omega (arith, h)
value_of_digits (suc w) n h =
    let small : n < 10 ^ w * 10 = rw (pow-suc 10 w) at h in
    let front = value_of_digits w (n / 10) (omega arith) in
    digits_value_push 10 (digits w (n / 10)) (48 + n % 10) ∙ omega (arith, front, digit_is (n % 10) (omega arith))

pub length-digits : (w n : ℕ) → length (digits w n) ≡ w
unfolding digits
length-digits zero n = refl
length-digits (suc w) n = length-append (digits w (n / 10)) ((48 + n % 10) ∷ []) ∙ ap (λ (k : ℕ). k + 1) (length-digits w (n / 10)) ∙ add-one w

digits_all : (xs : List ℕ) (d : ℕ) → d < 10 → AllDigits 10 xs → AllDigits 10 (xs ++ (48 + d) ∷ [])
digits_all [] d h a = (omega (arith, digit_is d h), tt)
digits_all (x ∷ xs) d h a = (a.0, digits_all xs d h a.1)

pub are_digits : (w n : ℕ) → AllDigits 10 (digits w n)
unfolding digits
are_digits zero n = tt
are_digits (suc w) n = digits_all (digits w (n / 10)) (n % 10) (omega arith) (are_digits w (n / 10))

-- the places that are written, and how many zeros were left out
pub record IsCut (w n : ℕ) (xs : List ℕ) : Type 0 where
  pub zeros : ℕ
  pub whole : digits w n ≡ xs ++ replicate zeros 48
  pub digits_are : AllDigits 10 xs
  pub count : length xs + zeros ≡ w

cut_zero : (w n : ℕ) → n % 10 ≡ 0 → digits_without_closing_zeros (suc w) n ≡ digits_without_closing_zeros w (n / 10)
unfolding digits_without_closing_zeros
cut_zero w n e = rw (eq-eqb (n % 10) 0 e) refl

cut_other : (w n : ℕ) → eqb (n % 10) 0 ≡ false → digits_without_closing_zeros (suc w) n ≡ digits (suc w) n
unfolding digits_without_closing_zeros
cut_other w n e = rw e refl

cut : (w n : ℕ) (b : Bool) → eqb (n % 10) 0 ≡ b → IsCut w (n / 10) (digits_without_closing_zeros w (n / 10)) → IsCut (suc w) n (digits_without_closing_zeros (suc w) n)
cut w n true e rest =
    let xs = digits_without_closing_zeros w (n / 10) in
    let zero-is : n % 10 ≡ 0 = eqb-true (n % 10) 0 e in
    subst (IsCut (suc w) n) (sym (cut_zero w n zero-is)) (record {
      zeros = rest.zeros + 1;
      whole = digits-suc w n ∙ ap (λ (k : ℕ). digits w (n / 10) ++ (48 + k) ∷ []) zero-is ∙ ap (λ (t : List ℕ). t ++ 48 ∷ []) rest.whole
          ∙ append_assoc xs (replicate rest.zeros 48) (48 ∷ []) ∙ ap (λ (t : List ℕ). xs ++ t) (replicate-append-replicate rest.zeros 1 48);
      digits_are = rest.digits_are;
      count = omega (arith, rest.count);
    })
cut w n false e rest =
    subst (IsCut (suc w) n) (sym (cut_other w n e)) (record { zeros = 0; whole = sym (append-nil (digits (suc w) n)); digits_are = are_digits (suc w) n; count = omega (arith, length-digits (suc w) n) })

pub is_cut : (w n : ℕ) → IsCut w n (digits_without_closing_zeros w n)
unfolding digits_without_closing_zeros digits
is_cut zero n = record { zeros = 0; whole = refl; digits_are = tt; count = refl }
is_cut (suc w) n = cut w n (eqb (n % 10) 0) refl (is_cut w (n / 10))

-- how many places there are
pub cut_length : (places number n : ℕ) → digits places number ≡ digits_without_closing_zeros 9 n → places ≡ length (digits_without_closing_zeros 9 n)
cut_length places number n h = sym (length-digits places number) ∙ ap length h

-- ---- places that are written from the last to the first

pub none_written : (places n : ℕ) (text : List ℕ) → digits places n ++ take (places - places) text ≡ digits places n
none_written places n text =
    let none : places - places ≡ 0 = omega arith in
    rw none (append-nil (digits places n))

pub one_written : (places left rest n d : ℕ) (text : List ℕ) → 0 < left → left ≤ places → left < length text → d ≡ 48 + rest % 10 → digits left rest ++ take (places - left) (drop (left + 1) text) ≡ digits places n
    → digits (left - 1) (rest / 10) ++ take (places - (left - 1)) (drop (left - 1 + 1) (set text left d)) ≡ digits places n
one_written places zero rest n d text some fits inside is before = absurd (omega (arith, some))
one_written places (suc left) rest n d text some fits inside is before =
    let one : suc left - 1 ≡ left = omega arith in
    let next : left + 1 ≡ suc left = omega arith in
    let more : places - left ≡ suc (places - suc left) = omega arith in
    let written = take (places - suc left) (drop (suc left + 1) text) in
    rw (one, next, more, drop-set text (suc left) d inside, is) (
    sym (append_assoc (digits left (rest / 10)) ((48 + rest % 10) ∷ []) written) ∙ ap (λ (t : List ℕ). t ++ written) (sym (digits-suc left rest)) ∙ before
    )

pub all_written : (places left rest n : ℕ) (text : List ℕ) → left ≤ 0 → take 1 text ≡ 46 ∷ [] → digits left rest ++ take (places - left) (drop (left + 1) text) ≡ digits places n → take (1 + places) text ≡ 46 ∷ digits places n
unfolding digits
all_written places zero rest n text none first before =
    let whole : places ≡ places - 0 = omega arith in
    take-add 1 places text ∙ ap (λ (t : List ℕ). t ++ take places (drop 1 text)) first ∙ ap (λ (k : ℕ). 46 ∷ take k (drop 1 text)) whole ∙ ap (λ (t : List ℕ). 46 ∷ t) before
all_written places (suc left) rest n text none first before = absurd (omega (arith, none))
