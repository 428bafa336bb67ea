-- The digits at the front of a text, and the number that they give.
use Rattle.std.specs.Prelude.{◌≡◌, ◌<◌, ◌≤◌, ◌^◌, ℕ, List, length, take, get_or}
use Rattle.std.specs.Str.Parse.{AllDigits, digits_value}

-- the first bytes are digits of this number, which 64 bits hold
pub record AreFirst (bytes : List ℕ) (number len : ℕ) : Type 0 where
  pub digits : AllDigits 10 (take len bytes)
  pub value : number ≡ digits_value 10 (take len bytes)
  pub fits : number < 2 ^ 64
  pub within : len ≤ length bytes

-- there are some, and no zero leads
pub record AreInteger (bytes : List ℕ) (number len : ℕ) : Type 0 where
  pub first : AreFirst bytes number len
  pub some : 0 < len
  pub lead : get_or bytes 0 0 ≡ 48 → len ≡ 1
