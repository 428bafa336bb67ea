-- How moments are written.
use Rattle.std.specs.Prelude.{ℕ, zero, suc, ◌+◌, ◌/◌, ◌%◌, List, [], ◌∷◌, ◌++◌, pos, nat_lt, if◌then◌else◌}
use Rattle.jiff_core.specs.Calendar.{days_in_month}
use Rattle.sentry_moments.specs.Characters.{upper_t, upper_z}
use Rattle.sentry_moments.specs.Digits.{fraction_text}
use Rattle.sentry_moments.specs.Rfc3339.{Civil, date_text, clock_text}

-- a day of the calendar
pub record Day : Type 0 where
  pub year : ℕ
  pub month : ℕ
  pub day : ℕ

-- the day after
abbrev pub next_day : Day → Day
next_day d =
    if nat_lt d.day (days_in_month (pos d.year) d.month) then record { year = d.year; month = d.month; day = d.day + 1 }
    else (if nat_lt d.month 12 then record { year = d.year; month = d.month + 1; day = 1 }
    else record { year = d.year + 1; month = 1; day = 1 })

-- the day this many days after 1970-01-01
unfoldable pub day_after : ℕ → Day
day_after zero = record { year = 1970; month = 1; day = 1 }
day_after (suc n) = next_day (day_after n)

-- what a calendar and a clock show this many seconds after 1970-01-01T00:00:00
abbrev pub civil_at : ℕ → Civil
civil_at secs = record {
  year = (day_after (secs / 86_400)).year;
  month = (day_after (secs / 86_400)).month;
  day = (day_after (secs / 86_400)).day;
  hour = secs % 86_400 / 3_600;
  minute = secs % 3_600 / 60;
  second = secs % 60;
}

-- `2020-07-20T14:51:14.296Z`
abbrev pub rfc3339_text : ℕ → ℕ → List ℕ
rfc3339_text secs nanos =
    date_text (civil_at secs) ++ (upper_t ∷ (clock_text (civil_at secs) ++ (fraction_text nanos ++ upper_z ∷ [])))
