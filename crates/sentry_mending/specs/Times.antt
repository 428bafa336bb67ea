-- Times of decimal numbers of seconds.
use Rattle.std.specs.Prelude.{◌≡◌, ℕ, ◌+◌, ◌*◌, ◌^◌, List, [], ◌∷◌, ◌++◌}
use Rattle.sentry_moments.specs.Decimal.{IsDecimal, Billionths}
use Rattle.sentry_moments.specs.MomentTexts.{rfc3339_text}

-- The text is a JSON string of the RFC 3339 text of that many seconds since 1970, cut to
-- nanoseconds.
abbrev pub IsTimeOf : List ℕ → List ℕ → Type 0
IsTimeOf number text = (secs : ℕ) × (nanos : ℕ) × IsDecimal number (Billionths (secs * 10 ^ 9 + nanos)) × (text ≡ 34 ∷ (rfc3339_text secs nanos ++ 34 ∷ []))
