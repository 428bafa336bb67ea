-- Numbers from their digits.
use Rattle.std.proofs.Common.{◌≡◌, ℕ, ◌-◌, ◌<◌, List, length, get_or}
use Rattle.std.specs.Char.{digit_value}
use Rattle.std.specs.Str.Parse.{AllDigits}
use Rattle.std.proofs.lemmas.Str.Parse.{digit_at}
use Rattle.sentry_json.proofs.Integers.{value_of_digit}

-- a digit of a text is its byte less that of 0
pub digit_of : (ds : List ℕ) (i : ℕ) → AllDigits 10 ds → i < length ds → digit_value (get_or ds i 0) ≡ get_or ds i 0 - 48
digit_of ds i are h =
    let range = digit_at ds i are h in value_of_digit (get_or ds i 0) (range.0, range.1)
