-- Debug identifiers as texts of trees.
use Rattle.std.specs.Prelude.{◌≡◌, ℕ, ◌<◌, ◌^◌, List, [], length, All, option_map}
use Rattle.sentry_tables.specs.Cell.{Cell, octets, choice}
use Rattle.sentry_tables.specs.Kind.{Kind}
use Rattle.sentry_tables.specs.Spelling.{Spelling, read_as, spelled_kind}
use Rattle.sentry_identifiers.specs.DebugId.{debug_id_of, debug_id_text}

-- the appendix, and the bytes of the UUID
abbrev pub debug_cell : List ℕ × ℕ → Cell
debug_cell parts = choice parts.1 (octets parts.0)

-- a number of 32 bits, and sixteen bytes
abbrev pub IsDebugCell : Cell → Type 0
IsDebugCell (choice n (octets bytes)) = (n < 2 ^ 32) × (length bytes ≡ 16) × All (λ b. b < 256) bytes
IsDebugCell _ = ⊥

-- the written text
abbrev pub debug_text : Cell → List ℕ
debug_text (choice n (octets bytes)) = debug_id_text bytes n
debug_text _ = []

-- a text spells the identifier that it is read as
abbrev pub debug_spelling : Spelling
debug_spelling = read_as (λ text. option_map debug_cell (debug_id_of text)) debug_text IsDebugCell

abbrev pub debug_kind : Kind
debug_kind = spelled_kind debug_spelling
