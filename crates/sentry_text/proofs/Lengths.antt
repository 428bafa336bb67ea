-- How many digits written numbers have.
use Rattle.std.proofs.Common.{◌≡◌, ◌+◌, ◌/◌, ◌%◌, ◌<◌, ◌≤◌, ◌^◌, ◌==◌, ℕ, zero, suc, Bool, true, false, List, [], ◌∷◌, length, arith}
use Rattle.std.specs.Fmt.{decimal, digits, digits_onto, digit_glyph}
use Rattle.std.specs.Prelude.{if◌then◌else◌}
use Rattle.std.proofs.lemmas.Bool.{eq-eqb}
use Rattle.std.proofs.lemmas.Fmt.{length-decimal-le}

-- a number of 64 bits has 20 at most
pub decimal_size : (n : ℕ) → n < 2 ^ 64 → length (decimal n) ≤ 20
decimal_size n small = length-decimal-le 20 n (omega arith) (omega arith) small

-- in base 16, a number below 16 ^ j has j at most
hex_onto_size : (k j n : ℕ) (acc : List ℕ) → 0 < j → n < 16 ^ j → length (digits_onto k 16 false n acc) ≤ j + length acc
hex_onto_size zero j n acc some fits = omega arith
hex_onto_size (suc k) zero n acc some fits = absurd (omega arith)
hex_onto_size (suc k) (suc zero) n acc some fits =
    let none : n / 16 ≡ 0 = omega arith in
    rw (eq-eqb (n / 16) 0 none) (omega arith)
hex_onto_size (suc k) (suc (suc j)) n acc some fits = go (n / 16 == 0) (hex_onto_size k (suc j) (n / 16) (digit_glyph false (n % 16) ∷ acc) (omega arith) (omega arith))
  where
    go : (b : Bool) → length (digits_onto k 16 false (n / 16) (digit_glyph false (n % 16) ∷ acc)) ≤ suc j + suc (length acc)
        → length (if b then digit_glyph false (n % 16) ∷ acc else digits_onto k 16 false (n / 16) (digit_glyph false (n % 16) ∷ acc)) ≤ suc (suc j) + length acc
    go true h = omega arith
    go false h = omega (arith, h)

pub hex_size : (j n : ℕ) → 0 < j → n < 16 ^ j → length (digits 16 false n) ≤ j
unfolding digits
hex_size j n some fits = omega (arith, hex_onto_size 64 j n [] some fits)
