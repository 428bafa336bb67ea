-- The words of a monitor's interval.
use Rattle.std.specs.Prelude.{ℕ, List, [], ◌∷◌, Option, codes}
use Rattle.sentry_tables.specs.Kind.{Kind}
use Rattle.sentry_tables.specs.Spelling.{Spelling, enumeration, spelled_kind}
use Rattle.sentry_words.specs.Lookup.{lookup, by_word}
use Rattle.sentry_words.specs.declared.monitor_interval_unit.MonitorIntervalUnit.{MonitorIntervalUnit}
use Rattle.sentry_words.specs.declared.monitor_interval_unit.MonitorIntervalUnit.TheVariants as interval_unit

abbrev pub interval_unit_word : MonitorIntervalUnit → List ℕ
interval_unit_word interval_unit.Year = codes "year"
interval_unit_word interval_unit.Month = codes "month"
interval_unit_word interval_unit.Week = codes "week"
interval_unit_word interval_unit.Day = codes "day"
interval_unit_word interval_unit.Hour = codes "hour"
interval_unit_word interval_unit.Minute = codes "minute"

-- what is read
abbrev pub interval_unit_words : List (List ℕ × MonitorIntervalUnit)
interval_unit_words = by_word interval_unit_word (interval_unit.Year ∷ interval_unit.Month ∷ interval_unit.Week ∷ interval_unit.Day ∷ interval_unit.Hour ∷ interval_unit.Minute ∷ [])

-- what a text is read as
abbrev pub interval_unit_of : List ℕ → Option MonitorIntervalUnit
interval_unit_of = lookup interval_unit_words

abbrev pub interval_unit_spelling : Spelling
interval_unit_spelling = enumeration interval_unit_of interval_unit_word

abbrev pub interval_unit_kind : Kind
interval_unit_kind = spelled_kind interval_unit_spelling
