-- Reading a decimal text from left to right: what each private reader takes from the front.
use Rattle.std.specs.Prelude.{ℕ, ◌==◌, nat_lt, nat_le, ◌&&◌, ◌||◌, Bool, false, List, [], ◌∷◌, length, Option, Some, None, option_map, if◌then◌else◌}
use Rattle.std.specs.Char.{is_ascii_digit}
use Rattle.std.specs.List.{prefix_len}
use Rattle.std.specs.Str.Parse.{digits_value}
use Rattle.sentry_moments.specs.Characters.{full_stop, lower_e, minus_sign, plus_sign, upper_e}
use Rattle.sentry_moments.specs.Digits.{front_digits, after_digits}

-- a minus sign stands first
unfoldable pub is_minus : List ℕ → Bool
is_minus [] = false
is_minus (c ∷ rest) = c == minus_sign

-- the text after its sign
unfoldable pub unsigned : List ℕ → List ℕ
unsigned [] = []
unsigned (c ∷ rest) = if (c == plus_sign) || (c == minus_sign) then rest else c ∷ rest

-- the digits after the point that a text begins with, if it does, and what follows them
unfoldable pub places : List ℕ → List ℕ
places [] = []
places (c ∷ rest) = if c == full_stop then front_digits rest else []

unfoldable pub after_places : List ℕ → List ℕ
after_places [] = []
after_places (c ∷ rest) = if c == full_stop then after_digits rest else c ∷ rest

-- the number that one to three digits write
unfoldable pub short_number : List ℕ → Option ℕ
short_number ds =
    if nat_lt 0 (length ds) && nat_le (length ds) 3 && (prefix_len is_ascii_digit ds == length ds) then Some (digits_value 10 ds) else None

-- an exponent, to the end of the text: whether it is below 0, and its number
unfoldable pub exponent : List ℕ → Option (Bool × ℕ)
exponent [] = Some (false, 0)
exponent (c ∷ rest) = if (c == upper_e) || (c == lower_e) then option_map (λ x. (is_minus rest, x)) (short_number (unsigned rest)) else None
