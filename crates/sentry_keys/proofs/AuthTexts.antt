-- Texts that are cut at commas and at `=`, and texts without white space around them.
use Rattle.std.proofs.Common.{◌≡◌, ◌≢◌, ◌⊎◌, ◌==◌, ◌<◌, ◌&&◌, ℕ, zero, suc, Bool, true, false, cond, List, [], ◌∷◌, ◌++◌, length, take, inl, inr, refl, ap, ◌∙◌, arith}
use Rattle.std.specs.Char.{is_whitespace}
use Rattle.std.specs.List.{AllByRecursion, All, slice_split, before_first, position_or_len}
use Rattle.std.specs.Str.{trim, trim_start, trim_end, encode_utf8_all, skip_leading_whitespace, drop_trailing_whitespace, IsAscii}
use Rattle.std.specs.Str.Parse.{AllDigits}
use Rattle.std.proofs.lemmas.Bool.{ne_eqb, eq-eqb}
use Rattle.std.proofs.lemmas.Bool.Decides.{nat_tests}
use Rattle.std.proofs.lemmas.List.{take_all}
use Rattle.std.proofs.lemmas.List.Elements.{All-nil, All-cons}
use Rattle.std.proofs.lemmas.List.Splits.{slice_split_none, slice_split_at}
use Rattle.std.proofs.lemmas.List.Sums.{position_or_len_is}
use Rattle.std.proofs.lemmas.Str.{chars-IsAscii, encodes-IsAscii}
use Rattle.std.proofs.lemmas.Str.Parse.{digit_from_value}

-- no byte is c
unfoldable pub lacks : ℕ → List ℕ → Bool
lacks c [] = true
lacks c (x ∷ xs) = cond (x == c) false (lacks c xs)

lacks_more : (c x : ℕ) (xs : List ℕ) → (x == c) ≡ false → lacks c xs ≡ true → lacks c (x ∷ xs) ≡ true
unfolding lacks
lacks_more c x xs e h = ap (λ b. cond b false (lacks c xs)) e ∙ h

lacks_parts : (c x : ℕ) (xs : List ℕ) → lacks c (x ∷ xs) ≡ true → ((x == c) ≡ false) × (lacks c xs ≡ true)
unfolding lacks
lacks_parts c x xs h = go (x == c) refl h
  where
    go : (b : Bool) → (x == c) ≡ b → cond b false (lacks c xs) ≡ true → ((x == c) ≡ false) × (lacks c xs ≡ true)
    go true e g = absurd (cc)
    go false e g = (e, g)

pub lacks_all : (c : ℕ) (xs : List ℕ) → lacks c xs ≡ true → All (λ b. (b == c) ≡ false) xs
lacks_all c [] h = All-nil (λ b. (b == c) ≡ false)
lacks_all c (x ∷ xs) h = let p = lacks_parts c x xs h in All-cons (λ b. (b == c) ≡ false) x xs p.0 (lacks_all c xs p.1)

pub lacks_append : (c : ℕ) (xs ys : List ℕ) → lacks c xs ≡ true → lacks c ys ≡ true → lacks c (xs ++ ys) ≡ true
lacks_append c [] ys h k = k
lacks_append c (x ∷ xs) ys h k = let p = lacks_parts c x xs h in lacks_more c x (xs ++ ys) p.0 (lacks_append c xs ys p.1 k)

pub lacks_comma : (xs : List ℕ) → AllByRecursion (λ b. (b ≢ 44) × (b ≢ 61)) xs → lacks 44 xs ≡ true
unfolding lacks
lacks_comma [] h = refl
lacks_comma (x ∷ xs) h = lacks_more 44 x xs (ne_eqb x 44 h.0.0) (lacks_comma xs h.1)

pub lacks_equals : (xs : List ℕ) → AllByRecursion (λ b. (b ≢ 44) × (b ≢ 61)) xs → lacks 61 xs ≡ true
unfolding lacks
lacks_equals [] h = refl
lacks_equals (x ∷ xs) h = lacks_more 61 x xs (ne_eqb x 61 h.0.1) (lacks_equals xs h.1)

pub cut_at : (c : ℕ) (xs ys : List ℕ) → lacks c xs ≡ true → slice_split (λ b. b == c) (xs ++ c ∷ ys) ≡ xs ∷ slice_split (λ b. b == c) ys
cut_at c xs ys h = slice_split_at (λ b. b == c) xs c ys (lacks_all c xs h) (eq-eqb c c refl)

pub uncut : (c : ℕ) (xs : List ℕ) → lacks c xs ≡ true → slice_split (λ b. b == c) xs ≡ xs ∷ []
uncut c xs h = slice_split_none (λ b. b == c) xs (lacks_all c xs h)

pub before_none : (c : ℕ) (xs : List ℕ) → lacks c xs ≡ true → before_first (λ b. b == c) xs ≡ xs
before_none c xs h =
    let all = lacks_all c xs h in
    let at : position_or_len (λ b. b == c) xs ≡ length xs = position_or_len_is (λ b. b == c) xs (length xs) 0 (omega arith) (λ k less. all k 0 less) (λ less. absurd (omega (arith, less))) in
    ap (λ n. take n xs) at ∙ take_all (length xs) xs (omega arith)

-- ---- digits and points

-- each byte is a digit, a point or a slash
abbrev pub AreVisible : List ℕ → Type 0
AreVisible xs = AllByRecursion (λ b. (45 < b) × (b < 58)) xs

pub visible_append : (xs ys : List ℕ) → AreVisible xs → AreVisible ys → AreVisible (xs ++ ys)
visible_append [] ys h k = k
visible_append (x ∷ xs) ys h k = (h.0, visible_append xs ys h.1 k)

pub visible_digits : (xs : List ℕ) → AllDigits 10 xs → AreVisible xs
visible_digits [] h = tt
visible_digits (x ∷ xs) h = let r = digit_from_value x h.0 in ((omega (arith, r), omega (arith, r)), visible_digits xs h.1)

pub visible_lacks : (c : ℕ) (xs : List ℕ) → (c < 46) ⊎ (57 < c) → AreVisible xs → lacks c xs ≡ true
unfolding lacks
visible_lacks c [] far h = refl
visible_lacks c (x ∷ xs) far h = lacks_more c x xs (ne_eqb x c (apart far)) (visible_lacks c xs far h.1)
  where
    apart : (c < 46) ⊎ (57 < c) → x ≡ c → ⊥
    apart (inl low) e = omega (arith, low, e, h.0)
    apart (inr high) e = omega (arith, high, e, h.0)

pub digits_lack_points : (xs : List ℕ) → AllDigits 10 xs → lacks 46 xs ≡ true
unfolding lacks
digits_lack_points [] h = refl
digits_lack_points (x ∷ xs) h = lacks_more 46 x xs (ne_eqb x 46 (λ e. let r = digit_from_value x h.0 in omega (arith, e, r))) (digits_lack_points xs h.1)

visible_ascii : (xs : List ℕ) → AreVisible xs → IsAscii xs
visible_ascii [] h i = omega arith
visible_ascii (x ∷ xs) h zero = omega (arith, h.0)
visible_ascii (x ∷ xs) h (suc i) = visible_ascii xs h.1 i

not_white : (x : ℕ) → 45 < x → x < 58 → is_whitespace x ≡ false
not_white x low high = grind (arith, nat_tests)

skips_nothing : (xs : List ℕ) → AreVisible xs → skip_leading_whitespace xs ≡ xs
skips_nothing [] h = refl
skips_nothing (x ∷ xs) h = ap (λ b. cond b (skip_leading_whitespace xs) (x ∷ xs)) (not_white x h.0.0 h.0.1)

drops_nothing : (xs : List ℕ) → AreVisible xs → drop_trailing_whitespace xs ≡ xs
drops_nothing [] h = refl
drops_nothing (x ∷ xs) h =
    ap (λ b. cond (b && (length (drop_trailing_whitespace xs) == 0)) [] (x ∷ drop_trailing_whitespace xs)) (not_white x h.0.0 h.0.1) ∙ ap (λ t. x ∷ t) (drops_nothing xs h.1)

starts_so : (xs : List ℕ) → AreVisible xs → trim_start xs ≡ xs
unfolding trim_start
starts_so xs h = ap (λ t. encode_utf8_all (skip_leading_whitespace t)) (chars-IsAscii xs (visible_ascii xs h)) ∙ ap encode_utf8_all (skips_nothing xs h) ∙ encodes-IsAscii xs (visible_ascii xs h)

ends_so : (xs : List ℕ) → AreVisible xs → trim_end xs ≡ xs
unfolding trim_end
ends_so xs h = ap (λ t. encode_utf8_all (drop_trailing_whitespace t)) (chars-IsAscii xs (visible_ascii xs h)) ∙ ap encode_utf8_all (drops_nothing xs h) ∙ encodes-IsAscii xs (visible_ascii xs h)

pub trims_nothing : (xs : List ℕ) → AreVisible xs → trim xs ≡ xs
trims_nothing xs h = ap trim_end (starts_so xs h) ∙ ends_so xs h
