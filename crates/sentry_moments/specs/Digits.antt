-- Numbers in a fixed number of decimal places.
use Rattle.std.specs.Prelude.{ℕ, zero, suc, ◌+◌, ◌/◌, ◌%◌, ◌==◌, List, [], ◌∷◌, ◌++◌, take, drop, if◌then◌else◌}
use Rattle.std.specs.Char.{is_ascii_digit}
use Rattle.std.specs.List.{prefix_len}
use Rattle.sentry_moments.specs.Characters.{full_stop, zero_digit}

-- a number below 10 ^ places, in that many digits
unfoldable pub digits : ℕ → ℕ → List ℕ
digits zero n = []
digits (suc places) n = digits places (n / 10) ++ (zero_digit + n % 10) ∷ []

-- the same without closing zeros
unfoldable pub digits_without_closing_zeros : ℕ → ℕ → List ℕ
digits_without_closing_zeros zero n = []
digits_without_closing_zeros (suc places) n =
    if n % 10 == 0 then digits_without_closing_zeros places (n / 10) else digits (suc places) n

-- a point and the places of billionths up to the last that is not 0; nothing where all are 0
abbrev pub fraction_text : ℕ → List ℕ
fraction_text billionths = if billionths == 0 then [] else full_stop ∷ digits_without_closing_zeros 9 billionths

-- the digits that a text begins with, and what follows them
abbrev pub front_digits : List ℕ → List ℕ
front_digits text = take (prefix_len is_ascii_digit text) text

abbrev pub after_digits : List ℕ → List ℕ
after_digits text = drop (prefix_len is_ascii_digit text) text
