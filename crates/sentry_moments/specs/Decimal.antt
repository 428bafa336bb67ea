-- Decimal texts and what they are worth.
use Rattle.std.specs.Prelude.{◌≡◌, ℕ, ◌+◌, ◌*◌, ◌/◌, ◌^◌, ◌<◌, ◌≤◌, ◌⊎◌, ◌&&◌, nat_lt, Bool, true, false, List, [], ◌∷◌, ◌++◌, length, Result, Ok, Err, if◌then◌else◌}
use Rattle.std.specs.Fmt.{decimal}
use Rattle.std.specs.Str.Parse.{AllDigits, digits_value}
use Rattle.sentry_moments.specs.Characters.{full_stop, lower_e, minus_sign, plus_sign, upper_e}
use Rattle.sentry_moments.specs.Digits.{fraction_text}
use Rattle.sentry_moments.specs.declared.decimal.DecimalError.{DecimalError}
use Rattle.sentry_moments.specs.declared.decimal.DecimalError.TheVariants.{InvalidText, OutOfRange}

-- no sign, `+` or `-`, and whether it is a minus
pub data IsSign : List ℕ → Bool → Type 0 where
  NoSign : IsSign [] false
  Plus : IsSign (plus_sign ∷ []) false
  Minus : IsSign (minus_sign ∷ []) true

-- the point and the digits after it, or nothing
pub data IsPoint : List ℕ → List ℕ → Type 0 where
  NoPoint : IsPoint [] []
  Point : (fraction : List ℕ) → AllDigits 10 fraction → IsPoint (full_stop ∷ fraction) fraction

-- `e` or `E`, a sign and one to three digits, or nothing: whether the exponent is below 0, and its number
pub data IsExponent : List ℕ → Bool → ℕ → Type 0 where
  NoExponent : IsExponent [] false 0
  Exponent : (letter : ℕ) (sign : List ℕ) (down : Bool) (ds : List ℕ) → (letter ≡ upper_e) ⊎ (letter ≡ lower_e) → IsSign sign down → AllDigits 10 ds → 0 < length ds → length ds ≤ 3
      → IsExponent (letter ∷ sign ++ ds) down (digits_value 10 ds)

-- number times 10 ^ (x - places) in billionths, cut off below, where `down` says that x is below 0
abbrev pub billionths : ℕ → ℕ → Bool → ℕ → ℕ
billionths number places down x =
    if down then number * 10 ^ 9 / 10 ^ (places + x) else number * 10 ^ (9 + x) / 10 ^ places

-- what a decimal text is worth: so many billionths, or something below 0
pub data Worth : Type 0 where
  Billionths : ℕ → Worth
  BelowZero : Worth

-- With a minus sign, digits that are all 0 are worth 0, and others are below 0, however near to it.
abbrev pub worth : Bool → ℕ → ℕ → Worth
worth negative number value = if negative && nat_lt 0 number then BelowZero else Billionths value

-- a sign, digits with a point among them or none, at least one digit, and an exponent
pub record IsDecimal (text : List ℕ) (worth_is : Worth) : Type 0 where
  pub negative : Bool
  pub sign : List ℕ
  pub whole : List ℕ
  pub point : List ℕ
  pub fraction : List ℕ
  pub exponent : List ℕ
  pub down : Bool
  pub x : ℕ
  pub shape : text ≡ sign ++ whole ++ point ++ exponent
  pub is_sign : IsSign sign negative
  pub is_whole : AllDigits 10 whole
  pub is_point : IsPoint point fraction
  pub some_digit : 0 < length whole + length fraction
  pub is_exponent : IsExponent exponent down x
  pub is_worth : worth_is ≡ worth negative (digits_value 10 (whole ++ fraction)) (billionths (digits_value 10 (whole ++ fraction)) (length fraction) down x)

-- the text is no decimal
abbrev pub IsNoDecimal : List ℕ → Type 0
IsNoDecimal text = (w : Worth) → IsDecimal text w → ⊥

-- the text is worth something below 0, or as many billionths as the limit or more
abbrev pub IsOutside : ℕ → List ℕ → Type 0
IsOutside limit text = IsDecimal text BelowZero ⊎ ((v : ℕ) × IsDecimal text (Billionths v) × (limit ≤ v))

-- How decimals are written: whole units, a point and at most nine places, without closing zeros.
abbrev pub decimal_text : ℕ → ℕ → List ℕ
decimal_text whole part = decimal whole ++ fraction_text part

-- What reading a decimal below a limit answers.
abbrev pub ReadsDecimal : ℕ → List ℕ → Result ℕ DecimalError → Type 0
ReadsDecimal limit text (Ok v) = IsDecimal text (Billionths v) × (v < limit)
ReadsDecimal limit text (Err InvalidText) = IsNoDecimal text
ReadsDecimal limit text (Err OutOfRange) = IsOutside limit text
