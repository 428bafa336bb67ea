-- The words of a log's level.
use Rattle.std.specs.Prelude.{ℕ, List, [], ◌∷◌, Option, codes}
use Rattle.sentry_tables.specs.Kind.{Kind}
use Rattle.sentry_tables.specs.Spelling.{Spelling, enumeration, spelled_kind}
use Rattle.sentry_words.specs.Lookup.{lookup, by_word}
use Rattle.sentry_words.specs.declared.log_level.LogLevel.{LogLevel}
use Rattle.sentry_words.specs.declared.log_level.LogLevel.TheVariants as log_level

abbrev pub log_level_word : LogLevel → List ℕ
log_level_word log_level.Trace = codes "trace"
log_level_word log_level.Debug = codes "debug"
log_level_word log_level.Info = codes "info"
log_level_word log_level.Warn = codes "warn"
log_level_word log_level.Error = codes "error"
log_level_word log_level.Fatal = codes "fatal"

-- what is read
abbrev pub log_level_words : List (List ℕ × LogLevel)
log_level_words = by_word log_level_word (log_level.Trace ∷ log_level.Debug ∷ log_level.Info ∷ log_level.Warn ∷ log_level.Error ∷ log_level.Fatal ∷ [])

-- what a text is read as
abbrev pub log_level_of : List ℕ → Option LogLevel
log_level_of = lookup log_level_words

abbrev pub log_level_spelling : Spelling
log_level_spelling = enumeration log_level_of log_level_word

abbrev pub log_level_kind : Kind
log_level_kind = spelled_kind log_level_spelling
