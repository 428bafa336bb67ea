-- What reading a sample rate answers.
use Rattle.std.specs.Prelude.{ℕ, ◌^◌, List, Result, Ok, Err}
use Rattle.sentry_moments.specs.declared.decimal.DecimalError.{DecimalError}
use Rattle.sentry_moments.specs.declared.decimal.DecimalError.TheVariants.{InvalidText, OutOfRange}
use Rattle.sentry_moments.specs.declared.sample_rate.SampleRate.{SampleRate}
use Rattle.sentry_moments.specs.Decimal.{IsDecimal, IsNoDecimal, IsOutside, Billionths}

abbrev pub ReadsSampleRate : List ℕ → Result SampleRate DecimalError → Type 0
ReadsSampleRate text (Ok r) = IsDecimal text (Billionths r.0)
ReadsSampleRate text (Err InvalidText) = IsNoDecimal text
ReadsSampleRate text (Err OutOfRange) = IsOutside (2 ^ 64) text
