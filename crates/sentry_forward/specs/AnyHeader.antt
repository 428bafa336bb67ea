-- What an item header of any type says, and what a header line has to be. Floats are allowed.
use Rattle.std.specs.Prelude.{ℕ, Bool, List, Option, Some, None, option_map, is_some, if◌then◌else◌, codes}
use Rattle.std.specs.Str.{is_utf8}
use Rattle.serde_json.specs.Data.{Data}
use Rattle.serde_json.specs.Find.{get, as_object, as_str}
use Rattle.serde_json.specs.Read.{read}
use Rattle.sentry_framing.specs.Framing.{Reading}
use Rattle.sentry_framing.specs.ItemHeader.{◌>>=◌, optional, whole_number}

-- the tree of bytes that are UTF-8 and one JSON text
unfoldable pub json_of : List ℕ → Option Data
json_of bytes = if is_utf8 bytes then read bytes else None

-- the word of the type, and the length that is stated
pub record Typed : Type 0 where
  pub word : List ℕ
  pub length : Option ℕ

unfoldable pub typed_of : Data → Option Typed
typed_of d = do
  word ← get (codes "type") d >>= as_str
  length ← optional whole_number (get (codes "length") d)
  Some (record { word = word; length = length })

-- what the header says that stands in these bytes, where it is one
unfoldable pub any_header : List ℕ → Option Typed
any_header header = json_of header >>= typed_of

unfoldable pub any_reading : Reading
any_reading header = option_map (λ t. t.length) (any_header header)

-- the bytes are one JSON object
unfoldable pub is_object_line : List ℕ → Bool
is_object_line bytes = is_some (json_of bytes >>= as_object)
