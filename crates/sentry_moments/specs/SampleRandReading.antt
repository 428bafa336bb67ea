-- How a random sampling value is read.
use Rattle.std.specs.Prelude.{ℕ, ◌^◌, List, Result, Ok, Err}
use Rattle.sentry_moments.specs.declared.decimal.DecimalError.{DecimalError}
use Rattle.sentry_moments.specs.declared.decimal.DecimalError.TheVariants.{InvalidText, OutOfRange as DecimalOutOfRange}
use Rattle.sentry_moments.specs.declared.sample_rand.SampleRand.{SampleRand}
use Rattle.sentry_moments.specs.declared.sample_rand.InvalidSampleRandError.{InvalidSampleRandError}
use Rattle.sentry_moments.specs.declared.sample_rand.InvalidSampleRandError.TheVariants.{InvalidFloat, OutOfRange}
use Rattle.sentry_moments.specs.Decimal.{IsDecimal, IsNoDecimal, IsOutside, Billionths}

-- a text that is no decimal is no float
abbrev pub sample_rand_error : DecimalError → InvalidSampleRandError
sample_rand_error InvalidText = InvalidFloat
sample_rand_error DecimalOutOfRange = OutOfRange

-- what reading a text answers
abbrev pub ReadsSampleRand : List ℕ → Result SampleRand InvalidSampleRandError → Type 0
ReadsSampleRand text (Ok r) = IsDecimal text (Billionths r.billionths)
ReadsSampleRand text (Err InvalidFloat) = IsNoDecimal text
ReadsSampleRand text (Err OutOfRange) = IsOutside (10 ^ 9) text
