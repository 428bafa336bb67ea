-- The digits that code identifiers are made of.
use Rattle.std.specs.Prelude.{ℕ, ◌||◌, List, Bool, filter, map}
use Rattle.std.specs.Char.{is_ascii_hexdigit, to_ascii_lowercase}
use Rattle.std.specs.Int.{is_in_range}
use Rattle.std.specs.List.{list_all}

-- the hex digits of a text, in lower case
abbrev pub code_digits : List ℕ → List ℕ
code_digits text = map to_ascii_lowercase (filter is_ascii_hexdigit text)

-- `0` to `9` and `a` to `f`
abbrev pub is_code_digit : ℕ → Bool
is_code_digit c = is_in_range 48 57 c || is_in_range 97 102 c

-- the text has such digits alone
abbrev pub are_code_digits : List ℕ → Bool
are_code_digits text = list_all is_code_digit text
