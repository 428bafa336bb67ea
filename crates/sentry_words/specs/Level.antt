-- The words of a level.
use Rattle.std.specs.Prelude.{ℕ, List, [], ◌∷◌, Option, codes}
use Rattle.sentry_tables.specs.Kind.{Kind}
use Rattle.sentry_tables.specs.Spelling.{Spelling, enumeration, spelled_kind}
use Rattle.sentry_words.specs.Lookup.{lookup}
use Rattle.sentry_words.specs.declared.level.Level.{Level}
use Rattle.sentry_words.specs.declared.level.Level.TheVariants as level

abbrev pub level_word : Level → List ℕ
level_word level.Debug = codes "debug"
level_word level.Info = codes "info"
level_word level.Warning = codes "warning"
level_word level.Error = codes "error"
level_word level.Fatal = codes "fatal"

-- what is read
abbrev pub level_words : List (List ℕ × Level)
level_words =
    (codes "debug", level.Debug) ∷ (codes "info", level.Info) ∷ (codes "log", level.Info) ∷ (codes "warning", level.Warning) ∷ (codes "error", level.Error) ∷ (codes "fatal", level.Fatal) ∷ []

-- what a text is read as
abbrev pub level_of : List ℕ → Option Level
level_of = lookup level_words

abbrev pub level_spelling : Spelling
level_spelling = enumeration level_of level_word

abbrev pub level_kind : Kind
level_kind = spelled_kind level_spelling

-- the place among the variants
abbrev pub level_index : Level → ℕ
level_index level.Debug = 0
level_index level.Info = 1
level_index level.Warning = 2
level_index level.Error = 3
level_index level.Fatal = 4
