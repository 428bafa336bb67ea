-- How long a rate limit holds, and when it ends.
use Rattle.std.specs.Prelude.{◌≡◌, ℕ, ◌+◌, ◌*◌, ◌^◌, ◌⊎◌, ◌==◌, min, List, Option, Some, None, MatchOption, unwrap_or, if◌then◌else◌}
use Rattle.httpdate.specs.Date.{IsDateText, unix_secs}
use Rattle.httpdate.specs.declared.date.HttpDate.{HttpDate}
use Rattle.sentry_tables.specs.Lawful.{last_second}
use Rattle.sentry_moments.specs.Decimal.{IsDecimal, Billionths}
use Rattle.sentry_moments.specs.Rfc3339.{IsMomentTime}
use Rattle.sentry_moments.specs.declared.moment.Moment.{Moment}

-- the text is a decimal of so many seconds and nanoseconds, at most as many as a moment has
abbrev pub IsDelay : List ℕ → ℕ → ℕ → Type 0
IsDelay text secs nanos = IsMomentTime secs nanos × IsDecimal text (Billionths (secs * 10 ^ 9 + nanos))

-- whole seconds
abbrev pub rounded_up : ℕ → ℕ → ℕ
rounded_up secs nanos = if nanos == 0 then secs else secs + 1

-- the seconds that a text states, or that it states none
abbrev pub ReadsDelay : List ℕ → Option ℕ → Type 0
ReadsDelay text (Some n) = (secs : ℕ) × (nanos : ℕ) × IsDelay text secs nanos × (n ≡ rounded_up secs nanos)
ReadsDelay text None = (secs nanos : ℕ) → IsDelay text secs nanos → ⊥

-- the seconds of a limit: 60 where the text states none
abbrev pub IsRetryAfter : List ℕ → ℕ → Type 0
IsRetryAfter text n = (stated : Option ℕ) × ReadsDelay text stated × (n ≡ unwrap_or stated 60)

-- the second in which a limit of so many seconds ends, at the latest the last of the year 9999
abbrev pub end_after : Moment → ℕ → ℕ
end_after now n = min (rounded_up now.secs now.nanos + n) last_second

-- the second at which an HTTP date ends a limit; 60 seconds from now where the text is no date
abbrev pub EndsAtDate : Moment → List ℕ → ℕ → Type 0
EndsAtDate now text end =
    ((date : HttpDate) × IsDateText text date × (end ≡ unix_secs date)) ⊎ (((date : HttpDate) → ¬ (IsDateText text date)) × (end ≡ end_after now 60))

-- the second at which the value of `Retry-After` ends a limit: seconds, or an HTTP date
abbrev pub RetriesAt : Moment → List ℕ → ℕ → Type 0
RetriesAt now text end =
    (stated : Option ℕ) × ReadsDelay text stated × MatchOption stated (EndsAtDate now text end) (λ n. end ≡ end_after now n)
