-- What a line of JSON is: bytes without NL, and the tree that they are read as.
use Rattle.std.specs.Prelude.{◌≢◌, ℕ, List, Option, Some, None, option_and_then, if◌then◌else◌, All}
use Rattle.std.specs.Str.{is_utf8}
use Rattle.serde_json.specs.Data.{Data}
use Rattle.serde_json.specs.Read.{read}
use Rattle.serde_json.specs.Written.{has_float}

-- the byte that ends a line
abbrev pub newline : ℕ
newline = 10

-- the bytes are one line, or a part of one
abbrev pub HasNoNewline : List ℕ → Type 0
HasNoNewline bytes = All (λ b. b ≢ newline) bytes

-- a tree of which no number, at any depth, is held as a float
abbrev pub unless_float : Data → Option Data
unless_float d = if has_float d then None else Some d

-- the tree of a line: its bytes are UTF-8, they are one JSON text, and no number is held as a float
unfoldable pub tree_of : List ℕ → Option Data
tree_of line = if is_utf8 line then option_and_then unless_float (read line) else None
