-- Code identifiers as texts of trees.
use Rattle.std.specs.Prelude.{ℕ, List, Option, Some, IsTrue}
use Rattle.sentry_tables.specs.Cell.{Cell, text}
use Rattle.sentry_tables.specs.Kind.{Kind}
use Rattle.sentry_tables.specs.Spelling.{Spelling, read_as, spelled_kind, word_of}
use Rattle.sentry_identifiers.specs.CodeDigits.{code_digits, are_code_digits}

-- hex digits in lower case
abbrev pub IsCodeCell : Cell → Type 0
IsCodeCell (text digits) = IsTrue (are_code_digits digits)
IsCodeCell _ = ⊥

-- any text spells the identifier of its hex digits
abbrev pub code_of : List ℕ → Option Cell
code_of s = Some (text (code_digits s))

abbrev pub code_spelling : Spelling
code_spelling = read_as code_of word_of IsCodeCell

abbrev pub code_kind : Kind
code_kind = spelled_kind code_spelling
