-- Sampling values as cells and as texts in trees.
use Rattle.std.specs.Prelude.{ℕ, pos, ◌*◌, ◌/◌, ◌%◌, ◌^◌, ◌<◌, List, ⊤}
use Rattle.sentry_tables.specs.Cell.{Cell, whole}
use Rattle.sentry_tables.specs.Basic.{IsBelow}
use Rattle.sentry_tables.specs.Kind.{Kind}
use Rattle.sentry_tables.specs.Spelling.{Spelling, spelled_kind}
use Rattle.sentry_moments.specs.Decimal.{IsDecimal, Billionths, decimal_text}
use Rattle.sentry_moments.specs.SampleRand.{millionths, sample_rand_text}
use Rattle.sentry_moments.specs.declared.sample_rand.SampleRand.{SampleRand}
use Rattle.sentry_moments.specs.declared.sample_rate.SampleRate.{SampleRate}

abbrev pub sample_rand_cell : SampleRand → Cell
sample_rand_cell r = whole (pos r.billionths)

abbrev pub sample_rate_cell : SampleRate → Cell
sample_rate_cell r = whole (pos r.0)

-- the text is a decimal worth so many billionths, fewer than the limit
abbrev pub IsWorthBelow : ℕ → List ℕ → Cell → Type 0
IsWorthBelow limit text (whole (pos n)) = IsDecimal text (Billionths n) × (n < limit)
IsWorthBelow limit text _ = ⊥

abbrev pub billionths_in : Cell → ℕ
billionths_in (whole (pos n)) = n
billionths_in _ = 0

-- what is printed of a random value, in billionths
abbrev pub printed_sample_rand : Cell → Cell
printed_sample_rand c = whole (pos (1000 * millionths (billionths_in c)))

-- a random value is written in six places, which are its normal form
abbrev pub sample_rand_spelling : Spelling
sample_rand_spelling = record {
  spells = IsWorthBelow (10 ^ 9);
  written = λ c. sample_rand_text (billionths_in c);
  norm = printed_sample_rand;
  stored = IsBelow (10 ^ 9);
  readable = λ c. ⊤;
}

abbrev pub sample_rand_kind : Kind
sample_rand_kind = spelled_kind sample_rand_spelling

-- a rate is written exactly
abbrev pub sample_rate_spelling : Spelling
sample_rate_spelling = record {
  spells = IsWorthBelow (2 ^ 64);
  written = λ c. decimal_text (billionths_in c / 10 ^ 9) (billionths_in c % 10 ^ 9);
  norm = λ c. c;
  stored = IsBelow (2 ^ 64);
  readable = λ c. ⊤;
}

abbrev pub sample_rate_kind : Kind
sample_rate_kind = spelled_kind sample_rate_spelling
