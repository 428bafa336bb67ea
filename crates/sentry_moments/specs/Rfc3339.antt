-- The texts of moments by RFC 3339.
use Rattle.std.specs.Prelude.{◌≡◌, ℕ, ◌+◌, ◌*◌, ◌<◌, ◌≤◌, ◌^◌, ◌⊎◌, ℤ, pos, neg_ℤ, ◌+ℤ◌, ◌-ℤ◌, ◌*ℤ◌, List, [], ◌∷◌, ◌++◌, take, replicate}
use Rattle.std.specs.Str.Parse.{AllDigits, digits_value}
use Rattle.jiff_core.specs.Calendar.{IsCivilDate, days_from_civil}
use Rattle.sentry_tables.specs.Lawful.{last_second}
use Rattle.sentry_moments.specs.Characters.{colon, full_stop, lower_t, lower_z, minus_sign, plus_sign, space, upper_t, upper_z, zero_digit}
use Rattle.sentry_moments.specs.Digits.{digits}

-- seconds and nanoseconds from 1970-01-01T00:00:00Z to the end of the year 9999
abbrev pub IsMomentTime : ℕ → ℕ → Type 0
IsMomentTime secs nanos = (secs ≤ last_second) × (nanos < 10 ^ 9)

-- a day and a time of day, as a calendar and a clock show them
pub record Civil : Type 0 where
  pub year : ℕ
  pub month : ℕ
  pub day : ℕ
  pub hour : ℕ
  pub minute : ℕ
  pub second : ℕ

-- the calendar has the day, and the clock the time
pub record IsCivil (c : Civil) : Type 0 where
  pub year : c.year < 10_000
  pub date : IsCivilDate (pos c.year) c.month c.day
  pub hour : c.hour < 24
  pub minute : c.minute < 60
  pub second : c.second < 60

-- `2020-07-20`
abbrev pub date_digits : ℕ → ℕ → ℕ → List ℕ
date_digits year month day = digits 4 year ++ (minus_sign ∷ (digits 2 month ++ (minus_sign ∷ digits 2 day)))

-- `14:51:14`
abbrev pub clock_digits : ℕ → ℕ → ℕ → List ℕ
clock_digits hour minute second = digits 2 hour ++ (colon ∷ (digits 2 minute ++ (colon ∷ digits 2 second)))

-- the date and the time of day as they are written
unfoldable pub date_text : Civil → List ℕ
date_text c = date_digits c.year c.month c.day

unfoldable pub clock_text : Civil → List ℕ
clock_text c = clock_digits c.hour c.minute c.second

-- the seconds from 1970-01-01T00:00:00 on the same clock
abbrev pub civil_seconds : Civil → ℤ
civil_seconds c =
    days_from_civil (pos c.year) c.month c.day *ℤ pos 86_400
    +ℤ pos (c.hour * 3_600 + c.minute * 60 + c.second)

-- `T`, `t` or a space stands between the date and the time
abbrev pub IsSeparator : ℕ → Type 0
IsSeparator b = (b ≡ upper_t) ⊎ ((b ≡ lower_t) ⊎ (b ≡ space))

-- a point and one or more digits, or nothing
pub data IsFraction : List ℕ → List ℕ → Type 0 where
  Absent : IsFraction [] []
  Present : (d : ℕ) (ds : List ℕ) → AllDigits 10 (d ∷ ds) → IsFraction (full_stop ∷ d ∷ ds) (d ∷ ds)

-- the first nine digits of a fraction, as nanoseconds
abbrev pub nanoseconds : List ℕ → ℕ
nanoseconds ds = digits_value 10 (take 9 (ds ++ replicate 9 zero_digit))

-- `Z`, `z`, or a sign, an hour and a minute: how many seconds the clock is ahead
pub data IsZone : List ℕ → ℤ → Type 0 where
  Upper : IsZone (upper_z ∷ []) (pos 0)
  Lower : IsZone (lower_z ∷ []) (pos 0)
  Ahead : (hour minute : ℕ) → hour < 24 → minute < 60 → IsZone (plus_sign ∷ digits 2 hour ++ colon ∷ digits 2 minute) (pos (hour * 3_600 + minute * 60))
  Behind : (hour minute : ℕ) → hour < 24 → minute < 60 → IsZone (minus_sign ∷ digits 2 hour ++ colon ∷ digits 2 minute) (neg_ℤ (pos (hour * 3_600 + minute * 60)))

-- the text names the moment this many seconds and nanoseconds after 1970-01-01T00:00:00Z
pub record IsRfc3339 (text : List ℕ) (secs nanos : ℕ) : Type 0 where
  pub civil : Civil
  pub separator : ℕ
  pub fraction : List ℕ
  pub fraction_text : List ℕ
  pub zone_text : List ℕ
  pub offset : ℤ
  pub whole : text ≡ date_text civil ++ separator ∷ clock_text civil ++ fraction_text ++ zone_text
  pub is_civil : IsCivil civil
  pub is_separator : IsSeparator separator
  pub is_fraction : IsFraction fraction_text fraction
  pub is_zone : IsZone zone_text offset
  pub seconds : pos secs ≡ civil_seconds civil -ℤ offset
  pub nanoseconds_is : nanos ≡ nanoseconds fraction
  pub in_range : IsMomentTime secs nanos
