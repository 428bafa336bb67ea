-- Units of metrics: their names, and the texts that spell them.
use Rattle.std.specs.Prelude.{◌≡◌, ℕ, zero, suc, List, [], ◌∷◌, ◌++◌, codes, Option, Some, None, cond, unwrap_or, filter, take, bytes_eq, IsUtf8}
use Rattle.std.specs.Char.{to_ascii_uppercase}
use Rattle.std.specs.Cow.{cow_str_bytes}
use Rattle.std.specs.List.{list_any}
use Rattle.sentry_tables.specs.Cell.{Cell, text, choice}
use Rattle.sentry_tables.specs.Kind.{Kind}
use Rattle.sentry_tables.specs.Spelling.{Spelling, spelled_kind, read_to}
use Rattle.sentry_words.specs.declared.unit.Unit.{Unit}
use Rattle.sentry_words.specs.declared.unit.Unit.TheVariants

-- ---- the table

-- a unit's name, and the texts that spell it
abbrev pub Row : Type 0
Row = List ℕ × List (List ℕ)

abbrev pub capital : List ℕ → List ℕ
capital [] = []
capital (x ∷ xs) = to_ascii_uppercase x ∷ xs

abbrev pub plural : List ℕ → List ℕ
plural word = word ++ codes "s"

-- spelled by its name, by the name with a capital, by both with `s`, and by its symbols
abbrev pub counted : List ℕ → List (List ℕ) → Row
counted name symbols = (name, name ∷ capital name ∷ plural name ∷ plural (capital name) ∷ symbols)

-- spelled by its name, by the name with a capital, and by its symbols
abbrev pub uncounted : List ℕ → List (List ℕ) → Row
uncounted name symbols = (name, name ∷ capital name ∷ symbols)

-- the two spellings that aren't ASCII: the Greek letter mu, and the micro sign, with `s`
unfoldable pub times : List Row
times =
    counted (codes "nanosecond") (codes "ns" ∷ []) ∷
    counted (codes "microsecond") ((206 ∷ 188 ∷ codes "s") ∷ (194 ∷ 181 ∷ codes "s") ∷ []) ∷
    counted (codes "millisecond") (codes "ms" ∷ []) ∷
    counted (codes "second") (codes "s" ∷ []) ∷
    counted (codes "minute") (codes "min" ∷ []) ∷
    counted (codes "hour") (codes "h" ∷ []) ∷
    counted (codes "day") (codes "d" ∷ []) ∷
    counted (codes "week") [] ∷
    []

-- by powers of 1000
unfoldable pub sizes : List Row
sizes =
    counted (codes "bit") (codes "b" ∷ []) ∷
    counted (codes "byte") (codes "B" ∷ []) ∷
    counted (codes "kilobyte") (codes "kB" ∷ []) ∷
    counted (codes "megabyte") (codes "MB" ∷ []) ∷
    counted (codes "gigabyte") (codes "GB" ∷ []) ∷
    counted (codes "terabyte") (codes "TB" ∷ []) ∷
    counted (codes "petabyte") (codes "PB" ∷ []) ∷
    counted (codes "exabyte") (codes "EB" ∷ []) ∷
    []

-- by powers of 1024
unfoldable pub binary_sizes : List Row
binary_sizes =
    counted (codes "kibibyte") (codes "KiB" ∷ []) ∷
    counted (codes "mebibyte") (codes "MiB" ∷ []) ∷
    counted (codes "gibibyte") (codes "GiB" ∷ []) ∷
    counted (codes "tebibyte") (codes "TiB" ∷ []) ∷
    counted (codes "pebibyte") (codes "PiB" ∷ []) ∷
    counted (codes "exbibyte") (codes "EiB" ∷ []) ∷
    []

unfoldable pub shares : List Row
shares =
    uncounted (codes "ratio") [] ∷
    uncounted (codes "percent") (codes "%" ∷ []) ∷
    []

abbrev pub units : List Row
units = times ++ (sizes ++ (binary_sizes ++ shares))

-- the rows whose names begin with one of the letters
abbrev pub named : List ℕ → List Row → List Row
named letters rows = filter (λ row. list_any (λ letter. bytes_eq (take 1 row.0) (letter ∷ [])) letters) rows

abbrev pub spellings : List Row → List (List ℕ)
spellings [] = []
spellings (row ∷ rows) = row.1 ++ spellings rows

-- ---- units as cells

-- a unit of the table
abbrev pub known : List ℕ → Cell
known name = choice 0 (text name)

-- a unit that keeps its text
abbrev pub other : List ℕ → Cell
other word = choice 1 (text word)

abbrev pub unit_cell : Unit → Cell
unit_cell TheVariants.Nanosecond = known (codes "nanosecond")
unit_cell TheVariants.Microsecond = known (codes "microsecond")
unit_cell TheVariants.Millisecond = known (codes "millisecond")
unit_cell TheVariants.Second = known (codes "second")
unit_cell TheVariants.Minute = known (codes "minute")
unit_cell TheVariants.Hour = known (codes "hour")
unit_cell TheVariants.Day = known (codes "day")
unit_cell TheVariants.Week = known (codes "week")
unit_cell TheVariants.Bit = known (codes "bit")
unit_cell TheVariants.Byte = known (codes "byte")
unit_cell TheVariants.Kilobyte = known (codes "kilobyte")
unit_cell TheVariants.Kibibyte = known (codes "kibibyte")
unit_cell TheVariants.Megabyte = known (codes "megabyte")
unit_cell TheVariants.Mebibyte = known (codes "mebibyte")
unit_cell TheVariants.Gigabyte = known (codes "gigabyte")
unit_cell TheVariants.Gibibyte = known (codes "gibibyte")
unit_cell TheVariants.Terabyte = known (codes "terabyte")
unit_cell TheVariants.Tebibyte = known (codes "tebibyte")
unit_cell TheVariants.Petabyte = known (codes "petabyte")
unit_cell TheVariants.Pebibyte = known (codes "pebibyte")
unit_cell TheVariants.Exabyte = known (codes "exabyte")
unit_cell TheVariants.Exbibyte = known (codes "exbibyte")
unit_cell TheVariants.Ratio = known (codes "ratio")
unit_cell TheVariants.Percent = known (codes "percent")
unit_cell (TheVariants.Other word) = other (cow_str_bytes word)

-- ---- reading and writing

-- the unit of the rows that the text spells, if it spells one
abbrev pub found : List Row → List ℕ → Option Cell
found [] word = None
found (row ∷ rows) word = cond (list_any (bytes_eq word) row.1) (Some (known row.0)) (found rows word)

-- a unit of the table, or else one that keeps the text
abbrev pub unit_of : List ℕ → Cell
unit_of word = unwrap_or (found units word) (other word)

-- the unit's name, or the text that it keeps
abbrev pub unit_text : Cell → List ℕ
unit_text (choice n (text word)) = word
unit_text _ = []

-- a unit of the table, or any text that is UTF-8
abbrev pub IsUnit : Cell → Type 0
IsUnit (choice zero (text name)) = found units name ≡ Some (known name)
IsUnit (choice (suc zero) (text word)) = IsUtf8 word
IsUnit _ = ⊥

-- a kept text that the table spells is its unit
abbrev pub unit_norm : Cell → Cell
unit_norm (choice (suc zero) (text word)) = unit_of word
unit_norm c = c

abbrev pub unit_spelling : Spelling
unit_spelling = read_to (λ word. Some (unit_of word)) unit_text unit_norm IsUnit

abbrev pub unit_kind : Kind
unit_kind = spelled_kind unit_spelling
