-- Truth values as texts.
use Rattle.std.specs.Prelude.{ℕ, List, codes, Bool, true, false, Option, Some, None, cond, bytes_eq}
use Rattle.sentry_tables.specs.Cell.{Cell}
use Rattle.sentry_tables.specs.Kind.{Kind}
use Rattle.sentry_tables.specs.Spelling.{Spelling, spelled_kind, enumeration, word_cell}

abbrev pub sampled_word : Bool → List ℕ
sampled_word true = codes "true"
sampled_word false = codes "false"

-- no other text, in no other case
abbrev pub sampled_of : List ℕ → Option Bool
sampled_of word = cond (bytes_eq word (codes "true")) (Some true) (cond (bytes_eq word (codes "false")) (Some false) None)

abbrev pub sampled_spelling : Spelling
sampled_spelling = enumeration sampled_of sampled_word

abbrev pub sampled_kind : Kind
sampled_kind = spelled_kind sampled_spelling

abbrev pub sampled_cell : Bool → Cell
sampled_cell = word_cell sampled_word
