-- Runs of ASCII, seen a vector at a time through the mask of the bytes at which they end.
use Rattle.std.proofs.Common.{◌≡◌, ℕ, suc, ◌+◌, ◌*◌, ◌%◌, ◌^◌, ◌<◌, ◌≤◌, Bool, true, false, not, ◌||◌, cond, subst, eqb, List, [], ◌∷◌, map, take, length, drop, refl, sym, ap, ap₂, ◌∙◌, arith}
use Rattle.std.proofs.lemmas.Simd.{chunk-drop, leading_from_mask_l, length-chunk, mask_l-mod, trailing_mask_l, zip2_of_maps}
use Rattle.std.proofs.lemmas.List.{length-drop, length-map}
use Rattle.std.proofs.lemmas.List.Folds.{prefix_len-append}
use Rattle.std.proofs.lemmas.List.Sums.{prefix_len-le-length}
use Rattle.std.proofs.lemmas.Bool.{and_from, eq-eqb, ne_eqb}
use Rattle.std.proofs.lemmas.Bool.Decides.{nat_tests}
use Rattle.std.proofs.lemmas.Str.Ascii.{IsAscii-cons, IsAscii-nil}
use Rattle.std.specs.List.{prefix_len}
use Rattle.std.specs.Str.{IsAscii}
use lib.Bits.{bit_or}
use lib.Lanes.{chunk, mask_l, top, zip2}
use lib.Count.{count_trailing_zeros}
use Rattle.json.specs.Run.{is_plain}
use Rattle.sentry_json.specs.PlainTexts.{is_plain_text}
use Rattle.sentry_forward.specs.Runs.{ends_run, is_in_run}

-- ---- lanes

-- a lane of a test
abbrev pub lane : (ℕ → Bool) → ℕ → ℕ
lane p x = cond (p x) 255 0

either_lane : (a b : Bool) → bit_or (cond a 255 0) (cond b 255 0) ≡ cond (a || b) 255 0
either_lane true true = refl
either_lane true false = refl
either_lane false true = refl
either_lane false false = refl

either_lanes : (p q : ℕ → Bool) (v : List ℕ) → map (λ x. bit_or (lane p x) (lane q x)) v ≡ map (lane (λ x. p x || q x)) v
either_lanes p q [] = refl
either_lanes p q (x ∷ xs) = ap₂ (λ a b. a ∷ b) (either_lane (p x) (q x)) (either_lanes p q xs)

pub either : (p q : ℕ → Bool) (v : List ℕ) {a b : List ℕ} → a ≡ map (lane p) v → b ≡ map (lane q) v → zip2 bit_or a b ≡ map (lane (λ x. p x || q x)) v
either p q v e f = zip2_of_maps bit_or (lane p) (lane q) v e f ∙ either_lanes p q v

top_lane : (b : Bool) → top 7 (cond b 255 0) ≡ b
top_lane true = refl
top_lane false = refl

tops : (p : ℕ → Bool) (v : List ℕ) → map (top 7) (map (lane p) v) ≡ map p v
tops p [] = refl
tops p (x ∷ xs) = ap₂ (λ a b. a ∷ b) (top_lane (p x)) (tops p xs)

pub mask_of : (p : ℕ → Bool) (v z : List ℕ) → length v ≤ 64 → z ≡ map (lane p) v → mask_l (map (top 7) z) % 2 ^ 64 ≡ mask_l (map p v)
mask_of p v z short e =
    ap (λ l. mask_l l % 2 ^ 64) (ap (map (top 7)) e ∙ tops p v) ∙ mask_l-mod (map p v) 64 (omega (arith, length-map v p))

-- ---- runs

pub run_bound : (d : List ℕ) (i : ℕ) → i ≤ length d → i + prefix_len is_in_run (drop i d) ≤ length d
run_bound d i h = omega (arith, prefix_len-le-length is_in_run (drop i d), length-drop i d)

parted : (d : List ℕ) (i n : ℕ) → prefix_len is_in_run (drop i d) ≡ cond (eqb (prefix_len is_in_run (chunk i n d)) (length (chunk i n d))) (length (chunk i n d) + prefix_len is_in_run (drop (i + n) d)) (prefix_len is_in_run (chunk i n d))
parted d i n = ap (prefix_len is_in_run) (chunk-drop i n d) ∙ prefix_len-append is_in_run (chunk i n d) (drop (i + n) d)

none_stops : (b : Bool) (n l m : ℕ) → n ≤ l → cond (not b) (1 + n) 0 ≡ 1 + l → (n ≡ l → m ≡ 0) → cond b 1 0 + 2 * m ≡ 0
none_stops true n l m le e rest = let no : ⊥ = omega arith in absurd no
none_stops false n l m le e rest = let z = rest (omega arith) in omega arith

-- where no byte ends a run the mask is zero
all_plain : (xs : List ℕ) → prefix_len is_in_run xs ≡ length xs → mask_l (map ends_run xs) ≡ 0
all_plain [] e = refl
all_plain (x ∷ xs) e = none_stops (ends_run x) _ (length xs) _ (prefix_len-le-length is_in_run xs) (omega arith) (all_plain xs)

pub run_through : (d : List ℕ) (i n : ℕ) → i + n ≤ length d → mask_l (map ends_run (chunk i n d)) ≡ 0 → prefix_len is_in_run (drop i d) ≡ n + prefix_len is_in_run (drop (i + n) d)
run_through d i n room none =
    let c = chunk i n d in
    parted d i n ∙ ap (λ b. cond b (length c + prefix_len is_in_run (drop (i + n) d)) (prefix_len is_in_run c)) (eq-eqb _ _ (leading_from_mask_l ends_run c none))
    ∙ ap (λ k. k + prefix_len is_in_run (drop (i + n) d)) (length-chunk i n d room)

pub run_stops : (d : List ℕ) (i n : ℕ) → i + n ≤ length d → n ≤ 64 → 0 < mask_l (map ends_run (chunk i n d)) → prefix_len is_in_run (drop i d) ≡ count_trailing_zeros 64 (mask_l (map ends_run (chunk i n d)))
run_stops d i n room short some =
    let c = chunk i n d in
    parted d i n ∙ ap (λ b. cond b (length c + prefix_len is_in_run (drop (i + n) d)) (prefix_len is_in_run c)) (ne_eqb _ _ (λ (e : prefix_len is_in_run c ≡ length c). omega (arith, all_plain c e)))
    ∙ sym (trailing_mask_l ends_run 64 c (omega (arith, length-chunk i n d room)) some)

-- ---- what stands in a run

stands : (x : ℕ) → is_in_run x ≡ true → (is_plain x ≡ true) × (x < 128)
stands x h = (grind (arith, nat_tests), grind (arith, nat_tests))

abbrev IsClear : List ℕ → Type 0
IsClear xs = (is_plain_text xs ≡ true) × IsAscii xs

-- the first byte is in the run and so is the front of the rest, or the front is empty
longer : (b : Bool) (x n : ℕ) (xs : List ℕ) → is_in_run x ≡ b → IsClear (take n xs) → IsClear (take (cond b (1 + n) 0) (x ∷ xs))
longer true x n xs e rest =
    let (plain, ascii) = stands x e in
    let one : suc n ≡ 1 + n = omega arith in
    subst (λ k. IsClear (take k (x ∷ xs))) one (and_from _ _ plain rest.0, IsAscii-cons x (take n xs) ascii rest.1)
longer false x n xs e rest = (refl, IsAscii-nil)

front_clear : (xs : List ℕ) → IsClear (take (prefix_len is_in_run xs) xs)
front_clear [] = (refl, IsAscii-nil)
front_clear (x ∷ xs) = longer (is_in_run x) x (prefix_len is_in_run xs) xs refl (front_clear xs)

-- what stands before the end of a run
pub run_clear : (text front : List ℕ) (len : ℕ) → len ≡ prefix_len is_in_run text → front ≡ take len text → IsClear front
run_clear text front len found cut = subst IsClear (sym (cut ∙ ap (λ n. take n text) found)) (front_clear text)
