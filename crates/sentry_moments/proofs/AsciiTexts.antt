-- Printed texts are ASCII, and so they are UTF-8.
use Rattle.std.proofs.Common.{ℕ, ◌^◌, ◌<◌, Bool, true, false, cond, eqb, List, [], ◌∷◌, ◌++◌, arith}
use Rattle.std.specs.Str.{IsAscii, IsUtf8}
use Rattle.std.proofs.lemmas.Fmt.{IsAscii-from_digits, IsAscii-decimal}
use Rattle.std.proofs.lemmas.Str.{IsAscii-append, IsUtf8-from_ascii}
use Rattle.std.proofs.lemmas.Str.Ascii.{IsAscii-nil, IsAscii-cons}
use Rattle.sentry_moments.specs.Decimal.{decimal_text}
use Rattle.sentry_moments.specs.Digits.{digits, digits_without_closing_zeros, fraction_text}
use Rattle.sentry_moments.specs.MomentTexts.{civil_at, rfc3339_text}
use Rattle.sentry_moments.specs.Rfc3339.{Civil, date_text, clock_text}
use Rattle.sentry_moments.specs.SampleRand.{millionths, sample_rand_text}
use Rattle.sentry_moments.proofs.Places.{are_digits, is_cut}

digits_ascii : (w n : ℕ) → IsAscii (digits w n)
digits_ascii w n = IsAscii-from_digits (digits w n) (are_digits w n)

fraction_ascii : (n : ℕ) (b : Bool) → IsAscii (cond b [] (46 ∷ digits_without_closing_zeros 9 n))
fraction_ascii n true = IsAscii-nil
fraction_ascii n false = IsAscii-cons 46 _ (omega arith) (IsAscii-from_digits (digits_without_closing_zeros 9 n) (is_cut 9 n).digits_are)

three_numbers : (byte : ℕ) (a b c : List ℕ) → byte < 128 → IsAscii a → IsAscii b → IsAscii c → IsAscii (a ++ (byte ∷ (b ++ (byte ∷ c))))
three_numbers byte a b c small h k l =
    IsAscii-append a (byte ∷ (b ++ (byte ∷ c))) h (IsAscii-cons byte (b ++ (byte ∷ c)) small (IsAscii-append b (byte ∷ c) k (IsAscii-cons byte c small l)))

date_ascii : (c : Civil) → IsAscii (date_text c)
unfolding date_text
date_ascii c = three_numbers 45 (digits 4 c.year) (digits 2 c.month) (digits 2 c.day) (omega arith) (digits_ascii 4 c.year) (digits_ascii 2 c.month) (digits_ascii 2 c.day)

clock_ascii : (c : Civil) → IsAscii (clock_text c)
unfolding clock_text
clock_ascii c = three_numbers 58 (digits 2 c.hour) (digits 2 c.minute) (digits 2 c.second) (omega arith) (digits_ascii 2 c.hour) (digits_ascii 2 c.minute) (digits_ascii 2 c.second)

pub rfc3339_text-utf8 : (secs nanos : ℕ) → IsUtf8 (rfc3339_text secs nanos)
rfc3339_text-utf8 secs nanos =
    let c = civil_at secs in
    let end : IsAscii (fraction_text nanos ++ 90 ∷ []) = IsAscii-append (fraction_text nanos) (90 ∷ []) (fraction_ascii nanos (eqb nanos 0)) (IsAscii-cons 90 [] (omega arith) IsAscii-nil) in
    IsUtf8-from_ascii (rfc3339_text secs nanos) (IsAscii-append (date_text c) (84 ∷ (clock_text c ++ (fraction_text nanos ++ 90 ∷ []))) (date_ascii c) (IsAscii-cons 84 (clock_text c ++ (fraction_text nanos ++ 90 ∷ [])) (omega arith) (IsAscii-append (clock_text c) (fraction_text nanos ++ 90 ∷ []) (clock_ascii c) end)))

pub decimal_text-utf8 : (whole part : ℕ) → whole < 2 ^ 64 → IsUtf8 (decimal_text whole part)
decimal_text-utf8 whole part h =
    IsUtf8-from_ascii (decimal_text whole part) (IsAscii-append _ (fraction_text part) (IsAscii-decimal whole h) (fraction_ascii part (eqb part 0)))

pub sample_rand_text-utf8 : (b : ℕ) → IsUtf8 (sample_rand_text b)
sample_rand_text-utf8 b =
    IsUtf8-from_ascii (sample_rand_text b) (IsAscii-cons 48 (46 ∷ digits 6 (millionths b)) (omega arith) (IsAscii-cons 46 (digits 6 (millionths b)) (omega arith) (digits_ascii 6 (millionths b))))
