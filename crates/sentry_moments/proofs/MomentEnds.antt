-- The text with all places, cut and ended by `Z`, is that of the moment.
use Rattle.std.proofs.Common.{◌≡◌, ℕ, suc, ◌+◌, ◌<◌, Bool, true, false, cond, eqb, List, [], ◌∷◌, ◌++◌, length, take, set, replicate, refl, sym, ap, ◌∙◌, append_assoc, arith, length-append, IsUtf8, subst}
use Rattle.sentry_moments.specs.Digits.{digits, digits_without_closing_zeros, fraction_text}
use Rattle.sentry_moments.specs.MomentPlaces.{end_of, with_places}
use Rattle.sentry_moments.specs.MomentTexts.{civil_at, rfc3339_text}
use Rattle.sentry_moments.specs.Rfc3339.{Civil, date_text, clock_text}
use Rattle.sentry_moments.proofs.AsciiTexts.{rfc3339_text-utf8}
use Rattle.sentry_moments.proofs.Lengths.{date_size, clock_size}
use Rattle.sentry_moments.proofs.Padding.{after_the_time}
use Rattle.sentry_moments.proofs.Places.{is_cut}

-- what stands before a place, and what is put there
ended : (front tail : List ℕ) (end z : ℕ) → end ≡ length front → 0 < length tail → take (end + 1) (set (front ++ tail) end z) ≡ front ++ z ∷ []
ended [] [] end z at some = absurd (omega (arith, some))
ended [] (x ∷ tail) end z at some = rw at refl
ended (y ∷ ys) tail end z at some =
    let more : suc (length ys) + 1 ≡ suc (length ys + 1) = omega arith in
    rw (at, more) (ap (λ t. y ∷ t) (ended ys tail (length ys) z refl some))

front_of : Civil → List ℕ
front_of c = date_text c ++ 84 ∷ clock_text c

front_size : (c : Civil) → length (front_of c) ≡ 19
unfolding front_of
front_size c = omega (arith, length-append (date_text c) (84 ∷ clock_text c), date_size c, clock_size c)

zeros_and_z : ℕ → List ℕ
zeros_and_z zeros = replicate zeros 48 ++ 90 ∷ []

tail_size : (zeros : ℕ) → 0 < length (zeros_and_z zeros)
unfolding zeros_and_z
tail_size zeros =
    let size : length (zeros_and_z zeros) ≡ length (replicate {A = ℕ} zeros 48) + 1 = length-append (replicate zeros 48) (90 ∷ []) in
    omega (arith, size)

whole_at : (c : Civil) (n : ℕ) → with_places c n ≡ front_of c ++ (46 ∷ (digits 9 n ++ 90 ∷ []))
unfolding front_of
whole_at c n = sym (after_the_time c (46 ∷ (digits 9 n ++ 90 ∷ [])))

cut_at : (c : Civil) (n end : ℕ) (b : Bool) → end ≡ cond b 19 (20 + length (digits_without_closing_zeros 9 n))
    → take (end + 1) (set (with_places c n) end 90) ≡ front_of c ++ (cond b [] (46 ∷ digits_without_closing_zeros 9 n) ++ 90 ∷ [])
unfolding zeros_and_z
cut_at c n end true at =
    ap (λ t. take (end + 1) (set t end 90)) (whole_at c n) ∙ ended (front_of c) (46 ∷ (digits 9 n ++ 90 ∷ [])) end 90 (at ∙ sym (front_size c)) (omega arith)
cut_at c n end false at =
    let cut = is_cut 9 n in
    let xs = digits_without_closing_zeros 9 n in
    let tail = zeros_and_z cut.zeros in
    let split : with_places c n ≡ (front_of c ++ 46 ∷ xs) ++ tail =
    whole_at c n ∙ ap (λ t. front_of c ++ 46 ∷ (t ++ 90 ∷ [])) cut.whole ∙ ap (λ t. front_of c ++ 46 ∷ t) (append_assoc xs (replicate cut.zeros 48) (90 ∷ [])) ∙ sym (append_assoc (front_of c) (46 ∷ xs) tail) in
    let size : end ≡ length (front_of c ++ 46 ∷ xs) = omega (arith, at, length-append (front_of c) (46 ∷ xs), front_size c) in
    ap (λ t. take (end + 1) (set t end 90)) split ∙ ended (front_of c ++ 46 ∷ xs) tail end 90 size (tail_size cut.zeros) ∙ append_assoc (front_of c) (46 ∷ xs) (90 ∷ [])

-- the text of the moment
pub text_cut : (secs nanos end : ℕ) (text : List ℕ) → text ≡ set (with_places (civil_at secs) nanos) end 90 → end ≡ end_of nanos → take (end + 1) text ≡ rfc3339_text secs nanos
unfolding front_of
text_cut secs nanos end text is at =
    ap (take (end + 1)) is ∙ cut_at (civil_at secs) nanos end (eqb nanos 0) at ∙ after_the_time (civil_at secs) (fraction_text nanos ++ 90 ∷ [])

pub cut_utf8 : (secs nanos end : ℕ) (text : List ℕ) → text ≡ set (with_places (civil_at secs) nanos) end 90 → end ≡ end_of nanos → IsUtf8 (take (end + 1) text)
cut_utf8 secs nanos end text is at = subst IsUtf8 (sym (text_cut secs nanos end text is at)) (rfc3339_text-utf8 secs nanos)

pub ends_within : (n end : ℕ) → end ≡ end_of n → end < 30
ends_within n end at = within (eqb n 0) at
  where
    within : (b : Bool) → end ≡ cond b 19 (20 + length (digits_without_closing_zeros 9 n)) → end < 30
    within true h = omega (arith, h)
    within false h = omega (arith, h, (is_cut 9 n).count)
