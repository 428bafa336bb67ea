-- The text of an item header.
use Rattle.std.specs.Prelude.{ℕ, List, ◌++◌, codes}
use Rattle.json.specs.Print.{escape}
use Rattle.serde_json.specs.Data.{Members, object}
use Rattle.serde_json.specs.Written.{compact_text}

-- the text of an object with these members
unfoldable pub header_text : Members → List ℕ
header_text ms = compact_text (object ms)

-- the front of an attachment's header, up to the file name
abbrev pub types_text : List ℕ → List ℕ → List ℕ
types_text ty content_type = codes "{\"attachment_type\":\"" ++ (escape ty ++ (codes "\",\"content_type\":\"" ++ (escape content_type ++ codes "\",\"filename\":\"")))
