-- Whole numbers as texts.
use Rattle.std.specs.Prelude.{◌≡◌, ℕ, ◌^◌, ◌<◌, ◌&&◌, nat_lt, Bool, List, length, Option, Some, None, option_map, Result, if◌then◌else◌}
use Rattle.std.specs.Char.{digit_value}
use Rattle.std.specs.List.{list_all}
use Rattle.std.specs.Result.{result_ok}
use Rattle.std.specs.Str.Parse.{IsNumeral, digits_value, without_leading_plus}

-- the text writes the number in this base, with or without a plus before its digits, and the number has at most 64 bits
pub record IsNumber (base : ℕ) (text : List ℕ) (n : ℕ) : Type 0 where
  pub digits : IsNumeral base (without_leading_plus text)
  pub value : n ≡ digits_value base (without_leading_plus text)
  pub small : n < 2 ^ 64

-- one digit or more, and nothing else
abbrev pub is_numeral : ℕ → List ℕ → Bool
is_numeral base text = nat_lt 0 (length text) && list_all (λ c. nat_lt (digit_value c) base) text

-- the number of digits, if it has at most 64 bits
abbrev pub value_of : ℕ → List ℕ → Option ℕ
value_of base digits =
    if is_numeral base digits && nat_lt (digits_value base digits) (2 ^ 64) then Some (digits_value base digits) else None

-- the number that the text writes in this base, if it writes one
unfoldable pub number_of : ℕ → List ℕ → Option ℕ
number_of base text = value_of base (without_leading_plus text)

-- the answer is what the text is read as, and an error where the text is read as nothing
abbrev pub ReadsAs : {A B E : Type 0} → (List ℕ → Option A) → (B → A) → List ℕ → Result B E → Type 0
ReadsAs of_text shown text answer = option_map shown (result_ok answer) ≡ of_text text
