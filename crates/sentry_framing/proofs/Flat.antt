-- A piece without braces and backslashes inside.
use Rattle.std.proofs.Common.{◌≡◌, ◌≢◌, inl, inr, map, subst, ℕ, zero, suc, ◌+◌, ◌<◌, ◌≤◌, Bool, true, false, not, cond, ◌==◌, List, [], ◌∷◌, length, take, drop, get_or, ◌-◌, ◌%◌, refl, sym, ap, ap₂, ◌∙◌, arith}
use Rattle.std.proofs.lemmas.Bool.{cases_lt, eq-eqb, eqb-true, eqb-false, ne_eqb}
use Rattle.std.proofs.lemmas.List.{drop-take, length-take, take-take}
use Rattle.std.proofs.lemmas.List.Sums.{count_by-le-length, count_by_more_no, count_by_more_yes, sum_by-cons, sum_by-take-drop}
use Rattle.std.proofs.lemmas.Simd.{length-chunk, none_from_empty_mask, run_in_chunk_fails, run_in_chunk_le, trailing_mask_l}
use Rattle.std.specs.List.{prefix_len}
use lib.Count.{count_trailing_zeros}
use lib.Lanes.{chunk, mask_l}
use Rattle.sentry_framing.specs.Quotes.{is_stop, quotes}
use Rattle.sentry_framing.proofs.Machine.{Place, Plain, InString, rest_after, plain_other, plain_quote, string_other, string_quote}

-- whether the quotes are even in number, where those before were even or weren't
unfoldable even_from : Bool → List ℕ → Bool
even_from even [] = even
even_from even (b ∷ bs) = even_from (cond (b == 34) (not even) even) bs

-- where the scan is after even quotes, or odd ones
abbrev pub place : Bool → Place
place true = Plain
place false = InString

-- a byte that is no brace and no backslash
step_of : (q e : Bool) (b : ℕ) (s : List ℕ) → (b == 34) ≡ q → b ≢ 123 → b ≢ 125 → b ≢ 92
    → rest_after (b ∷ s) (place e) 0 ≡ rest_after s (place (cond q (not e) e)) 0
step_of true true b s is o c k = ap (λ x. rest_after (x ∷ s) Plain 0) (eqb-true b 34 is) ∙ plain_quote s 0
step_of true false b s is o c k = ap (λ x. rest_after (x ∷ s) InString 0) (eqb-true b 34 is) ∙ string_quote s 0
step_of false true b s is o c k = plain_other b s 0 (eqb-false b 34 is) o c
step_of false false b s is o c k = string_other b s 0 (eqb-false b 34 is) k

-- none of the first bytes is a brace or a backslash
abbrev pub IsFlat : List ℕ → ℕ → Type 0
IsFlat s i = (k : ℕ) → k < i → is_stop (get_or s k 0) ≡ true → ⊥

no_open : (b : ℕ) → (is_stop b ≡ true → ⊥) → b ≢ 123
no_open b h is = h (ap is_stop is)

no_close : (b : ℕ) → (is_stop b ≡ true → ⊥) → b ≢ 125
no_close b h is = h (ap is_stop is)

no_escape : (b : ℕ) → (is_stop b ≡ true → ⊥) → b ≢ 92
no_escape b h is = h (ap is_stop is)

-- flat bytes with even quotes are passed over
passed : (e : Bool) (s : List ℕ) (i : ℕ) → i ≤ length s → IsFlat s i → even_from e (take i s) ≡ true
    → rest_after s (place e) 0 ≡ rest_after (drop i s) Plain 0
unfolding even_from
passed e s zero within flat is = ap (λ x. rest_after s (place x) 0) is
passed e [] (suc i) within flat is = absurd (omega arith)
passed e (b ∷ s) (suc i) within flat is =
    let first = flat 0 (omega arith) in
    step_of (b == 34) e b s refl (no_open b first) (no_close b first) (no_escape b first)
    ∙ passed (cond (b == 34) (not e) e) s i (omega arith) (λ k low. flat (suc k) (omega arith)) is

-- one more is odd where the others are even
flipped : (r : ℕ) → r < 2 → (1 - r == 0) ≡ not (r == 0)
flipped zero low = refl
flipped (suc zero) low = refl
flipped (suc (suc r)) low = absurd (omega arith)

turned : (b e : Bool) → cond b (not e) (not (not e)) ≡ cond (not b) e (not e)
turned true e = refl
turned false true = refl
turned false false = refl

one_more : (q e : Bool) (n : ℕ) → cond (n % 2 == 0) (cond q (not e) e) (not (cond q (not e) e)) ≡ cond ((cond q 1 0 + n) % 2 == 0) e (not e)
one_more false e n =
    let none : n ≡ 0 + n = omega arith in
    ap (λ m. cond (m % 2 == 0) e (not e)) none
one_more true e n =
    let other : (1 + n) % 2 ≡ 1 - n % 2 = omega arith in
    turned (n % 2 == 0) e ∙ sym (ap (λ r. cond (r == 0) e (not e)) other ∙ ap (λ b. cond b e (not e)) (flipped (n % 2) (omega arith)))

by_count : (e : Bool) (s : List ℕ) → even_from e s ≡ cond (quotes s % 2 == 0) e (not e)
unfolding even_from quotes
by_count e [] = refl
by_count e (b ∷ s) =
    by_count (cond (b == 34) (not e) e) s ∙ one_more (b == 34) e (quotes s) ∙ ap (λ n. cond (n % 2 == 0) e (not e)) (sym (sum_by-cons (λ b. cond (b == 34) 1 0) b s))

pub flat_passed : (s : List ℕ) (i : ℕ) → i ≤ length s → IsFlat s i → (quotes (take i s) % 2 == 0) ≡ true
    → rest_after (drop i s) Plain 0 ≡ rest_after s Plain 0
flat_passed s i within flat is = sym (passed true s i within flat (by_count true (take i s) ∙ ap (λ b. cond b true false) is))

-- ---- flat bytes whose quotes are counted

-- the first bytes are flat, and so many of them are quotes
pub record IsPassed (s : List ℕ) (i count : ℕ) : Type 0 where
  pub counted : count ≡ quotes (take i s)
  pub within : i ≤ length s
  pub flat : IsFlat s i

pub none_passed : (s : List ℕ) → IsPassed s 0 0
unfolding quotes
none_passed s = record { counted = refl; within = omega arith; flat = λ k low. absurd (omega arith) }

few : (s : List ℕ) (i : ℕ) → i ≤ length s → quotes (take i s) ≤ i
unfolding quotes
few s i within = omega (arith, count_by-le-length (λ b. b == 34) (take i s), length-take i s)

pub few_passed : (s : List ℕ) (i count : ℕ) → IsPassed s i count → count ≤ i
few_passed s i count h = omega (arith, h.counted, few s i h.within)

-- those of so many bytes more
quotes_more : (s : List ℕ) (i n : ℕ) → quotes (take (i + n) s) ≡ quotes (take i s) + quotes (chunk i n s)
unfolding quotes
quotes_more s i n =
    let count = λ (xs : List ℕ). quotes xs in
    sym (sum_by-take-drop (λ b. cond (b == 34) 1 0) (take (i + n) s) i) ∙ ap₂ (λ a b. count a + count b) (take-take i (i + n) s (omega arith)) (drop-take i n s)

-- the front of 16 lanes more
pub lanes_passed : (s : List ℕ) (i count n : ℕ) → i + 16 ≤ length s → n ≤ 16 → ((k : ℕ) → i ≤ k → k < i + n → is_stop (get_or s k 0) ≡ false)
    → IsPassed s i count → IsPassed s (i + n) (count + quotes (take n (chunk i 16 s)))
lanes_passed s i count n room short no_stop h = record {
  counted = omega (arith, h.counted, quotes_more s i n, ap quotes (take-take n 16 (drop i s) short));
  within = omega arith;
  flat = λ k low. elim (cases_lt k i) [
    | inl before ↦ h.flat k before
    | inr after ↦ λ is. let e : true ≡ false = sym is ∙ no_stop k after low in cc
  ];
}

-- one byte more
module _ (s : List ℕ) (i count : ℕ) (within : i < length s) (no_stop : is_stop (get_or s i 0) ≡ false) (h : IsPassed s i count) where
  one_flat : IsFlat s (i + 1)
  one_flat k low = elim (cases_lt k i) [
    | inl before ↦ h.flat k before
    | inr after ↦ λ is. let e : true ≡ false = sym is ∙ ap (λ j. is_stop (get_or s j 0)) (omega arith) ∙ no_stop in cc
  ]

  pub quote_passed : get_or s i 0 ≡ 34 → IsPassed s (i + 1) (count + 1)
  unfolding quotes
  quote_passed is = record {
    counted = omega (arith, h.counted, count_by_more_yes (λ b. b == 34) s i 0 within (eq-eqb _ _ is));
    within = omega arith;
    flat = one_flat;
  }

  pub other_passed : get_or s i 0 ≢ 34 → IsPassed s (i + 1) count
  unfolding quotes
  other_passed is = record {
    counted = omega (arith, h.counted, count_by_more_no (λ b. b == 34) s i 0 within (ne_eqb _ _ is));
    within = omega arith;
    flat = one_flat;
  }

-- 16 lanes, or those before the first stop
module _ (s : List ℕ) (i count found q : ℕ) (room : i + 16 ≤ length s) (mask : found ≡ mask_l (map is_stop (chunk i 16 s))) where
  pub all_passed : IsPassed s i count → found ≡ 0 → q ≡ quotes (take 16 (chunk i 16 s)) → IsPassed s (i + 16) (count + q)
  all_passed h none is = subst (λ n. IsPassed s (i + 16) (count + n)) (sym is) (lanes_passed s i count 16 room (omega arith) (none_from_empty_mask is_stop s i 16 0 room (sym mask ∙ none)) h)

  module _ (some : found ≡ 0 → ⊥) where
    stops_at : count_trailing_zeros 64 found ≡ prefix_len (λ b. not (is_stop b)) (chunk i 16 s)
    stops_at = ap (count_trailing_zeros 64) mask ∙ trailing_mask_l is_stop 64 (chunk i 16 s) (omega (arith, length-chunk i 16 s room)) (omega (arith, mask, some))

    pub stop_within : count_trailing_zeros 64 found ≤ 16
    stop_within = run_in_chunk_le is_stop s i 16 (count_trailing_zeros 64 found) 0 room stops_at

    pub stop_passed : IsPassed s i count → q ≡ quotes (take (count_trailing_zeros 64 found) (chunk i 16 s)) → IsPassed s (i + count_trailing_zeros 64 found) (count + q)
    stop_passed h is =
        let n = count_trailing_zeros 64 found in
        subst (λ m. IsPassed s (i + n) (count + m)) (sym is) (lanes_passed s i count n room stop_within (run_in_chunk_fails is_stop s i 16 n 0 room stops_at) h)
