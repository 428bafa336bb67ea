-- The words of a device's orientation.
use Rattle.std.specs.Prelude.{ℕ, List, [], ◌∷◌, Option, codes}
use Rattle.sentry_tables.specs.Kind.{Kind}
use Rattle.sentry_tables.specs.Spelling.{Spelling, enumeration, spelled_kind}
use Rattle.sentry_words.specs.Lookup.{lookup, by_word}
use Rattle.sentry_words.specs.declared.orientation.Orientation.{Orientation}
use Rattle.sentry_words.specs.declared.orientation.Orientation.TheVariants as orientation

abbrev pub orientation_word : Orientation → List ℕ
orientation_word orientation.Portrait = codes "portrait"
orientation_word orientation.Landscape = codes "landscape"

-- what is read
abbrev pub orientation_words : List (List ℕ × Orientation)
orientation_words = by_word orientation_word (orientation.Portrait ∷ orientation.Landscape ∷ [])

-- what a text is read as
abbrev pub orientation_of : List ℕ → Option Orientation
orientation_of = lookup orientation_words

abbrev pub orientation_spelling : Spelling
orientation_spelling = enumeration orientation_of orientation_word

abbrev pub orientation_kind : Kind
orientation_kind = spelled_kind orientation_spelling
