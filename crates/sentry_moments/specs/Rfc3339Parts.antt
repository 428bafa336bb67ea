-- The parts of an RFC 3339 text, for private functions that parse them.
use Rattle.std.specs.Prelude.{ℕ, ◌+◌, ◌-◌, ◌*◌, ◌==◌, ℤ, pos, ◌+ℤ◌, ◌-ℤ◌, ◌*ℤ◌, ◌≡◌, ◌++◌, List, [], ◌∷◌, length, get_or, Option, Some, None, if◌then◌else◌}
use Rattle.std.specs.Int.{IsInRange}
use Rattle.jiff_core.specs.Calendar.{days_from_civil}
use Rattle.sentry_moments.specs.Characters.{colon, full_stop, minus_sign, zero_digit}
use Rattle.sentry_moments.specs.Digits.{front_digits, after_digits}
use Rattle.sentry_moments.specs.Rfc3339.{Civil, IsCivil, IsSeparator, IsFraction, IsZone, date_text, clock_text, nanoseconds}

-- the date and the time that a text is: the number of the day, and the second of the day
pub record IsDateAndTime (text : List ℕ) (day : ℤ) (second : ℕ) : Type 0 where
  pub civil : Civil
  pub separator : ℕ
  pub whole : text ≡ date_text civil ++ separator ∷ clock_text civil
  pub is_civil : IsCivil civil
  pub is_separator : IsSeparator separator
  pub day_is : day ≡ days_from_civil (pos civil.year) civil.month civil.day
  pub second_is : second ≡ civil.hour * 3_600 + civil.minute * 60 + civil.second

-- the text names the moment this many seconds and nanoseconds after 1970-01-01T00:00:00Z; the
-- seconds are negative before 1970
pub record IsMomentText (text : List ℕ) (secs : ℤ) (nanos : ℕ) : Type 0 where
  pub front : List ℕ
  pub fraction : List ℕ
  pub fraction_text : List ℕ
  pub zone_text : List ℕ
  pub day : ℤ
  pub second : ℕ
  pub offset : ℤ
  pub whole : text ≡ front ++ fraction_text ++ zone_text
  pub is_date_and_time : IsDateAndTime front day second
  pub is_fraction : IsFraction fraction_text fraction
  pub is_zone : IsZone zone_text offset
  pub seconds : secs ≡ day *ℤ pos 86_400 +ℤ pos second -ℤ offset
  pub nanoseconds_is : nanos ≡ nanoseconds fraction

-- the nanoseconds of a fraction, if there is one, and the text after it
unfoldable pub fraction : List ℕ → Option (ℕ × List ℕ)
fraction [] = Some (0, [])
fraction (c ∷ rest) =
    if c == full_stop
    then (if length (front_digits rest) == 0 then None else Some (nanoseconds (front_digits rest), after_digits rest))
    else Some (0, c ∷ rest)

-- a digit stands at this place
abbrev pub HasDigit : List ℕ → ℕ → Type 0
HasDigit text place = IsInRange 48 57 (get_or text place 0)

-- the number that the digits at this place and the next write
abbrev pub number_at : List ℕ → ℕ → ℕ
number_at text place = (get_or text place 0 - zero_digit) * 10 + (get_or text (place + 1) 0 - zero_digit)

-- digits and separators stand where they do in `2020-07-20T14:51:14`, and the minute and the second
-- are below 60
pub record HasForm (text : List ℕ) : Type 0 where
  pub year : HasDigit text 0 × HasDigit text 1 × HasDigit text 2 × HasDigit text 3
  pub month : (get_or text 4 0 ≡ minus_sign) × HasDigit text 5 × HasDigit text 6
  pub day : (get_or text 7 0 ≡ minus_sign) × HasDigit text 8 × HasDigit text 9
  pub separator : IsSeparator (get_or text 10 0)
  pub hour : HasDigit text 11 × HasDigit text 12
  pub minute : (get_or text 13 0 ≡ colon) × IsInRange 48 53 (get_or text 14 0) × HasDigit text 15
  pub second : (get_or text 16 0 ≡ colon) × IsInRange 48 53 (get_or text 17 0) × HasDigit text 18

-- digits and a colon stand where they do in `01:00`, and the minute is below 60
pub record IsHourAndMinute (text : List ℕ) : Type 0 where
  pub long : length text ≡ 5
  pub hour : IsInRange 48 50 (get_or text 0 0) × HasDigit text 1
  pub minute : (get_or text 2 0 ≡ colon) × IsInRange 48 53 (get_or text 3 0) × HasDigit text 4
