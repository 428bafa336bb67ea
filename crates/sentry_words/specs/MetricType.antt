-- The words of a metric's type.
use Rattle.std.specs.Prelude.{ℕ, List, [], ◌∷◌, Option, codes}
use Rattle.sentry_tables.specs.Kind.{Kind}
use Rattle.sentry_tables.specs.Spelling.{Spelling, enumeration, spelled_kind}
use Rattle.sentry_words.specs.Lookup.{lookup, by_word}
use Rattle.sentry_words.specs.declared.metric_type.MetricType.{MetricType}
use Rattle.sentry_words.specs.declared.metric_type.MetricType.TheVariants as metric_type

abbrev pub metric_type_word : MetricType → List ℕ
metric_type_word metric_type.Counter = codes "counter"
metric_type_word metric_type.Gauge = codes "gauge"
metric_type_word metric_type.Distribution = codes "distribution"

-- what is read
abbrev pub metric_type_words : List (List ℕ × MetricType)
metric_type_words = by_word metric_type_word (metric_type.Counter ∷ metric_type.Gauge ∷ metric_type.Distribution ∷ [])

-- what a text is read as
abbrev pub metric_type_of : List ℕ → Option MetricType
metric_type_of = lookup metric_type_words

abbrev pub metric_type_spelling : Spelling
metric_type_spelling = enumeration metric_type_of metric_type_word

abbrev pub metric_type_kind : Kind
metric_type_kind = spelled_kind metric_type_spelling
