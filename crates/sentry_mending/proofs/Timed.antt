-- A moment that a decimal is worth, and its text, make the decimal's time.
use Rattle.std.proofs.Common.{◌≡◌, ℕ, ◌+◌, ◌*◌, ◌^◌, List, [], ◌∷◌, ◌++◌}
use Rattle.sentry_moments.specs.Decimal.{IsDecimal, Billionths}
use Rattle.sentry_moments.specs.MomentTexts.{rfc3339_text}
use Rattle.sentry_mending.specs.Times.{IsTimeOf}

pub time_made : (number text : List ℕ) (secs nanos : ℕ) → IsDecimal number (Billionths (secs * 10 ^ 9 + nanos)) → text ≡ 34 ∷ (rfc3339_text secs nanos ++ 34 ∷ []) → IsTimeOf number text
time_made number text secs nanos worth written = (secs, nanos, worth, written)
