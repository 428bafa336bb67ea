-- The mask of the bytes that pass one of three vector tests.
use Rattle.std.proofs.Common.{◌≡◌, ℕ, ◌%◌, ◌^◌, ◌≤◌, ◌||◌, Bool, true, false, cond, eqb, ltb, List, [], ◌∷◌, map, length, refl, ap, ap₂, ◌∙◌, arith}
use Rattle.std.proofs.lemmas.Simd.{mask_l-mod}
use Rattle.std.proofs.lemmas.List.{length-map}
use lib.Bits.{bit_or}
use lib.Lanes.{zip2, mask_l, top}

-- a lane of a test
abbrev pub hit : ℕ → ℕ → ℕ
hit a b = cond (eqb a b) 255 0

abbrev pub below : ℕ → ℕ → ℕ
below a b = cond (ltb a b) 255 0

zip2-map : (f g : ℕ → ℕ) (xs : List ℕ) → zip2 bit_or (map f xs) (map g xs) ≡ map (λ x. bit_or (f x) (g x)) xs
zip2-map f g [] = refl
zip2-map f g (x ∷ xs) = ap (λ r. bit_or (f x) (g x) ∷ r) (zip2-map f g xs)

pub either : (f g : ℕ → ℕ) (v : List ℕ) {a b : List ℕ} → a ≡ map f v → b ≡ map g v → zip2 bit_or a b ≡ map (λ x. bit_or (f x) (g x)) v
either f g v p q = ap₂ (zip2 bit_or) p q ∙ zip2-map f g v

top_lane : (a b c : Bool) → top 7 (bit_or (bit_or (cond a 255 0) (cond b 255 0)) (cond c 255 0)) ≡ (a || b || c)
top_lane true true true = refl
top_lane true true false = refl
top_lane true false true = refl
top_lane true false false = refl
top_lane false true true = refl
top_lane false true false = refl
top_lane false false true = refl
top_lane false false false = refl

module _ (p q r : ℕ → Bool) where
  abbrev lane : ℕ → ℕ
  lane x = bit_or (bit_or (cond (p x) 255 0) (cond (q x) 255 0)) (cond (r x) 255 0)

  abbrev passes : ℕ → Bool
  passes x = p x || q x || r x

  tops : (v : List ℕ) → map (top 7) (map lane v) ≡ map passes v
  tops [] = refl
  tops (x ∷ xs) = ap₂ (λ a b. a ∷ b) (top_lane (p x) (q x) (r x)) (tops xs)

  pub mask_of : (v z : List ℕ) → length v ≤ 64 → z ≡ map lane v → mask_l (map (top 7) z) % 2 ^ 64 ≡ mask_l (map passes v)
  mask_of v z short e =
      ap (λ l. mask_l l % 2 ^ 64) (ap (map (top 7)) e ∙ tops v) ∙ mask_l-mod (map passes v) 64 (omega (arith, length-map v passes))
