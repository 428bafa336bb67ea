-- The first lanes of a mask.
use Rattle.std.proofs.Common.{◌≡◌, ℕ, zero, suc, ◌+◌, ◌*◌, ◌/◌, ◌%◌, ◌^◌, Bool, true, false, cond, List, [], ◌∷◌, take, ap, ◌∙◌, arith}
use Rattle.std.proofs.lemmas.Simd.{mask_l-mod}
use Rattle.std.proofs.lemmas.Nat.{mod-pow-add}
use lib.Lanes.{mask_l}

step : (b : Bool) (x y p : ℕ) → x % p ≡ y → ((cond b 1 0 + 2 * x) / 2 ^ 1 % p) * 2 ^ 1 + (cond b 1 0 + 2 * x) % 2 ^ 1 ≡ cond b 1 0 + 2 * y
step true x y p e =
    let half : (1 + 2 * x) / 2 ≡ x = omega arith in
    omega (arith, ap (λ k. k % p) half ∙ e)
step false x y p e =
    let half : (0 + 2 * x) / 2 ≡ x = omega arith in
    omega (arith, ap (λ k. k % p) half ∙ e)

pub first_bits : (ms : List Bool) (n : ℕ) → mask_l ms % 2 ^ n ≡ mask_l (take n ms)
first_bits ms zero = omega arith
first_bits [] (suc n) = mask_l-mod [] (suc n) (omega arith)
first_bits (b ∷ ms) (suc n) =
    let m = mask_l (b ∷ ms) in
    let one : suc n ≡ n + 1 = omega arith in
    ap (λ k. m % 2 ^ k) one ∙ mod-pow-add m n 1 ∙ step b (mask_l ms) (mask_l (take n ms)) (2 ^ n) (first_bits ms n)
