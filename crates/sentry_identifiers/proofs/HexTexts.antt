-- Hex digits that are written two by two.
use Rattle.std.proofs.Common.{◌≡◌, ℕ, ◌+◌, ◌*◌, ◌/◌, ◌%◌, ◌<◌, ◌≤◌, ◌==◌, true, List, [], ◌∷◌, ◌++◌, length, take, drop, set, get_or, slice_index, refl, sym, ap, ◌∙◌, arith, append_assoc, append-nil, eqb-true, take_all, take-suc-set, length-set, add-one}
use Rattle.std.proofs.lemmas.List.{drop_all}
use Rattle.std.proofs.lemmas.Bool.{agree_below_at}
use Rattle.hex.specs.Hex.{encode_with, encode_lower, lower_digits}
use Rattle.hex.proofs.Pairs.{encode_with-drop}
use Rattle.sentry_identifiers.specs.declared.hex_id.TheConstants.{TWO_DIGITS}

-- a byte's digits stand at twice its place
pub high_at : (b : ℕ) → b < 256 → get_or TWO_DIGITS (2 * b) 0 ≡ slice_index lower_digits (b / 16)
high_at b small = eqb-true _ _ (agree_below_at (λ k. get_or TWO_DIGITS (2 * k) 0 == slice_index lower_digits (k / 16)) (λ k. true) 256 b refl small)

pub low_at : (b : ℕ) → b < 256 → get_or TWO_DIGITS (2 * b + 1) 0 ≡ slice_index lower_digits (b % 16)
low_at b small = eqb-true _ _ (agree_below_at (λ k. get_or TWO_DIGITS (2 * k + 1) 0 == slice_index lower_digits (k % 16)) (λ k. true) 256 b refl small)

two_stored : (d : List ℕ) (n x y : ℕ) → n + 1 < length d → take (n + 1 + 1) (set (set d n x) (n + 1) y) ≡ take n d ++ x ∷ y ∷ []
two_stored d n x y room =
    let first : take (n + 1) (set d n x) ≡ take n d ++ x ∷ [] = ap (λ k. take k (set d n x)) (add-one n) ∙ take-suc-set d n x (omega (arith, room)) in
    let second = take-suc-set (set d n x) (n + 1) y (omega (arith, room, length-set d n x)) in
    ap (λ k. take k (set (set d n x) (n + 1) y)) (add-one (n + 1)) ∙ second ∙ ap (λ l. l ++ y ∷ []) first ∙ append_assoc (take n d) (x ∷ []) (y ∷ [])

-- two digits more are written, and one byte less is left
pub pair_written : (bytes d : List ℕ) (p x y : ℕ) → p < length bytes → length d ≡ 2 * length bytes → x ≡ slice_index lower_digits (slice_index bytes p / 16) → y ≡ slice_index lower_digits (slice_index bytes p % 16)
    → take (2 * p) d ++ encode_lower (drop p bytes) ≡ encode_lower bytes → take (2 * (p + 1)) (set (set d (2 * p) x) (2 * p + 1) y) ++ encode_lower (drop (p + 1) bytes) ≡ encode_lower bytes
pair_written bytes d p x y below long high low before =
    let end : 2 * (p + 1) ≡ 2 * p + 1 + 1 = omega arith in
    let stored = ap (λ k. take k (set (set d (2 * p) x) (2 * p + 1) y)) end ∙ two_stored d (2 * p) x y (omega (arith, below, long)) in
    let rest = encode_lower (drop (p + 1) bytes) in
    ap (λ l. l ++ rest) stored ∙ append_assoc (take (2 * p) d) (x ∷ y ∷ []) rest
    ∙ ap (λ l. take (2 * p) d ++ l) ((λ i. high i ∷ low i ∷ rest) ∙ sym (encode_with-drop lower_digits bytes p below)) ∙ before

pub all_written : (bytes d : List ℕ) (p : ℕ) → length bytes ≤ p → length d ≡ 2 * length bytes → take (2 * p) d ++ encode_lower (drop p bytes) ≡ encode_lower bytes → d ≡ encode_lower bytes
unfolding encode_with
all_written bytes d p end long whole =
    sym (append-nil d) ∙ (λ i. sym (take_all (2 * p) d (omega (arith, end, long))) i ++ sym (ap encode_lower (drop_all p bytes end)) i) ∙ whole
