-- Digits in lower case stay as they are.
use Rattle.std.proofs.Common.{◌≡◌, inl, inr, ℕ, true, List, [], ◌∷◌, refl, arith}
use Rattle.std.specs.Char.{is_ascii_hexdigit, to_ascii_lowercase}
use Rattle.std.proofs.lemmas.Bool.{cases_Bool, and_parts, and_from}
use Rattle.std.proofs.lemmas.Bool.Decides.{nat_tests}
use Rattle.sentry_identifiers.specs.CodeDigits.{code_digits, is_code_digit, are_code_digits}

lower_is_digit : (c : ℕ) → is_ascii_hexdigit c ≡ true → is_code_digit (to_ascii_lowercase c) ≡ true
lower_is_digit c h = grind (arith, nat_tests)

digit_is_hex : (c : ℕ) → is_code_digit c ≡ true → (is_ascii_hexdigit c ≡ true) × (to_ascii_lowercase c ≡ c)
digit_is_hex c h = (grind (arith, nat_tests), grind (arith, nat_tests))

-- what is kept of a text are such digits
pub kept_are_digits : (text : List ℕ) → are_code_digits (code_digits text) ≡ true
kept_are_digits [] = refl
kept_are_digits (c ∷ cs) =
    elim (cases_Bool (is_ascii_hexdigit c)) [
      | inl t ↦ rw t (and_from (is_code_digit (to_ascii_lowercase c)) (are_code_digits (code_digits cs)) (lower_is_digit c t) (kept_are_digits cs))
      | inr f ↦ rw f (kept_are_digits cs)
    ]

-- and all of such digits are kept
pub digits_are_kept : (digits : List ℕ) → are_code_digits digits ≡ true → code_digits digits ≡ digits
digits_are_kept [] h = refl
digits_are_kept (c ∷ cs) h =
    let both = and_parts (is_code_digit c) (are_code_digits cs) h in
    let digit = digit_is_hex c both.0 in
    let lower = digit.1 in
    let rest = digits_are_kept cs both.1 in
    rw digit.0 (let whole : to_ascii_lowercase c ∷ code_digits cs ≡ c ∷ cs = cc in whole)
