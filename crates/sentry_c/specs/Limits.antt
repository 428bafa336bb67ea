-- Rate limits in one row of ends, and the measure of an envelope in two rows of numbers.
use Rattle.std.specs.Prelude.{◌≡◌, ◌≢◌, ◌⊎◌, ℕ, ℤ, Bool, true, false, List, length}
use Rattle.std.specs.Str.{IsUtf8}
use Rattle.sentry_limits.specs.Measured.{IsMeasured}
use Rattle.sentry_limits.specs.RateLimits.{IsHeldBack, IsUpdated}
use Rattle.sentry_limits.specs.declared.rate_limits.RateLimits.{RateLimits}
use Rattle.sentry_limits.specs.declared.rate_limits.TheConstants.{ENDS}
use Rattle.sentry_moments.specs.Rfc3339.{IsMomentTime}
use Rattle.sentry_moments.specs.declared.moment.Moment.{Moment}
use Rattle.sentry_c.specs.declared.status.TheConstants.{INVALID_ARGUMENT, NOT_UTF8, NO_MOMENT, OK}

-- the limits of a row of ends
abbrev pub limits_of : List ℕ → RateLimits
limits_of ends = record { ends = ends }

-- the row after a header that came at a moment
abbrev pub UpdatesRow : List ℕ → ℕ → ℕ → List ℕ → List ℕ → Type 0
UpdatesRow header secs nanos old new = (now : Moment) × (now.secs ≡ secs) × (now.nanos ≡ nanos) × IsUpdated header now (limits_of old) (limits_of new)

-- the row after a `Retry-After` that came at a moment
abbrev pub HoldsBackRow : List ℕ → ℕ → ℕ → List ℕ → List ℕ → Type 0
HoldsBackRow text secs nanos old new = (now : Moment) × (now.secs ≡ secs) × (now.nanos ≡ nanos) × IsHeldBack text now (limits_of old) (limits_of new)

-- the numbers of the envelope's items, their bytes and the longest payload
abbrev pub MeasuresRows : List ℕ → List ℕ → List ℕ → ℕ → Type 0
MeasuresRows bytes items sizes longest = IsMeasured bytes (record { items = items; bytes = sizes; longest = longest })

-- what a call that holds the limits of a header does, by its status
pub record HoldsStated (Holds : List ℕ → ℕ → ℕ → List ℕ → List ℕ → Type 0) (text : List ℕ) (secs nanos : ℕ) (old new : List ℕ) (status : ℤ) : Type 0 where
  pub held : status ≡ OK → Holds text secs nanos old new
  pub not_utf8 : status ≡ NOT_UTF8 → IsUtf8 text → ⊥
  pub utf8 : status ≡ OK → IsUtf8 text
  pub moment : status ≡ NO_MOMENT → IsMomentTime secs nanos → ⊥
  pub argument : status ≡ INVALID_ARGUMENT → length old ≢ ENDS
  pub long : status ≢ INVALID_ARGUMENT → length old ≡ ENDS
  pub unchanged : status ≢ OK → new ≡ old
  pub answers : (status ≡ OK) ⊎ ((status ≡ NOT_UTF8) ⊎ ((status ≡ NO_MOMENT) ⊎ (status ≡ INVALID_ARGUMENT)))

-- ---- parts of a run

-- the limits after one header or the other
abbrev pub IsHeldOf : Bool → List ℕ → Moment → RateLimits → RateLimits → Type 0
IsHeldOf false = IsUpdated
IsHeldOf true = IsHeldBack

abbrev pub HoldsRow : Bool → List ℕ → ℕ → ℕ → List ℕ → List ℕ → Type 0
HoldsRow false = UpdatesRow
HoldsRow true = HoldsBackRow
