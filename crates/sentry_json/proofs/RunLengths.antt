-- Runs of plain bytes, seen a vector at a time through the mask of the bytes at which they stop.
use Rattle.std.proofs.Common.{◌≡◌, ℕ, suc, ◌+◌, ◌*◌, ◌<◌, ◌≤◌, Bool, true, false, not, cond, eqb, List, [], ◌∷◌, map, take, length, drop, refl, sym, ap, ◌∙◌, arith}
use Rattle.std.proofs.lemmas.Simd.{chunk-drop, length-chunk, leading_from_mask_l, trailing_mask_l}
use Rattle.std.proofs.lemmas.List.{length-drop}
use Rattle.std.proofs.lemmas.List.Folds.{prefix_len-append}
use Rattle.std.proofs.lemmas.List.Sums.{prefix_len-le-length}
use Rattle.std.proofs.lemmas.Bool.{eq-eqb, ne_eqb, and_from}
use Rattle.std.specs.List.{prefix_len}
use lib.Lanes.{chunk, mask_l}
use lib.Count.{count_trailing_zeros}
use Rattle.json.specs.Run.{is_stop, is_plain}
use Rattle.sentry_json.specs.PlainTexts.{is_plain_text}

pub run_bound : (d : List ℕ) (i : ℕ) → i ≤ length d → i + prefix_len is_plain (drop i d) ≤ length d
run_bound d i h = omega (arith, prefix_len-le-length is_plain (drop i d), length-drop i d)

none_stops : (b : Bool) (n l m : ℕ) → n ≤ l → cond (not b) (1 + n) 0 ≡ 1 + l → (n ≡ l → m ≡ 0) → cond b 1 0 + 2 * m ≡ 0
none_stops true n l m le e rest = let no : ⊥ = omega arith in absurd no
none_stops false n l m le e rest = let z = rest (omega arith) in omega arith

-- where all bytes are plain the mask is zero
all_plain : (xs : List ℕ) → prefix_len is_plain xs ≡ length xs → mask_l (map is_stop xs) ≡ 0
all_plain [] e = refl
all_plain (x ∷ xs) e = none_stops (is_stop x) _ (length xs) _ (prefix_len-le-length is_plain xs) (omega arith) (all_plain xs)

parted : (d : List ℕ) (i n : ℕ) → prefix_len is_plain (drop i d) ≡ cond (eqb (prefix_len is_plain (chunk i n d)) (length (chunk i n d))) (length (chunk i n d) + prefix_len is_plain (drop (i + n) d)) (prefix_len is_plain (chunk i n d))
parted d i n = ap (prefix_len is_plain) (chunk-drop i n d) ∙ prefix_len-append is_plain (chunk i n d) (drop (i + n) d)

pub run_through : (d : List ℕ) (i n : ℕ) → i + n ≤ length d → mask_l (map is_stop (chunk i n d)) ≡ 0 → prefix_len is_plain (drop i d) ≡ n + prefix_len is_plain (drop (i + n) d)
run_through d i n room none =
    let c = chunk i n d in
    parted d i n ∙ ap (λ b. cond b (length c + prefix_len is_plain (drop (i + n) d)) (prefix_len is_plain c)) (eq-eqb _ _ (leading_from_mask_l is_stop c none))
    ∙ ap (λ k. k + prefix_len is_plain (drop (i + n) d)) (length-chunk i n d room)

pub run_stops : (d : List ℕ) (i n : ℕ) → i + n ≤ length d → n ≤ 64 → 0 < mask_l (map is_stop (chunk i n d)) → prefix_len is_plain (drop i d) ≡ count_trailing_zeros 64 (mask_l (map is_stop (chunk i n d)))
run_stops d i n room short some =
    let c = chunk i n d in
    parted d i n ∙ ap (λ b. cond b (length c + prefix_len is_plain (drop (i + n) d)) (prefix_len is_plain c)) (ne_eqb _ _ (λ (e : prefix_len is_plain c ≡ length c). omega (arith, all_plain c e)))
    ∙ sym (trailing_mask_l is_stop 64 c (omega (arith, length-chunk i n d room)) some)

-- the first byte is plain and so is the front of the rest, or the front is empty
longer : (b : Bool) (x n : ℕ) (xs : List ℕ) → is_plain x ≡ b → is_plain_text (take n xs) ≡ true → is_plain_text (take (cond b (1 + n) 0) (x ∷ xs)) ≡ true
longer true x n xs e rest =
    let one : 1 + n ≡ suc n = omega arith in
    ap (λ k. is_plain_text (take k (x ∷ xs))) one ∙ and_from _ _ e rest
longer false x n xs e rest = refl

front_plain : (xs : List ℕ) → is_plain_text (take (prefix_len is_plain xs) xs) ≡ true
front_plain [] = refl
front_plain (x ∷ xs) = longer (is_plain x) x (prefix_len is_plain xs) xs refl (front_plain xs)

-- what stands before the first stop is plain
pub run_plain : (text front : List ℕ) (len : ℕ) → len ≡ prefix_len is_plain text → front ≡ take len text → is_plain_text front ≡ true
run_plain text front len found cut = ap is_plain_text (cut ∙ ap (λ n. take n text) found) ∙ front_plain text
