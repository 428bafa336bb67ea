-- What an item header says: its table of fields.
use Rattle.std.specs.Prelude.{ℕ, suc, List, [], ◌∷◌, Option, Some, None, option_map, option_and_then, is_some, if◌then◌else◌, codes}
use Rattle.std.specs.Str.{bytes_eq}
use Rattle.serde_json.specs.Data.{Data}
use Rattle.serde_json.specs.Find.{get, as_null, as_str, as_number, as_u64}
use Rattle.sentry_json.specs.Line.{tree_of}
use Rattle.sentry_framing.specs.Framing.{Reading}

infixl 10 ◌>>=◌
abbrev pub ◌>>=◌ : {A B : Type 0} → Option A → (A → Option B) → Option B
o >>= f = option_and_then f o

-- where a word stands in a list of words, counted from 0
abbrev pub place_of : List ℕ → List (List ℕ) → Option ℕ
place_of word [] = None
place_of word (first ∷ others) = if bytes_eq word first then Some 0 else option_map suc (place_of word others)

-- a field that may be absent or null
abbrev pub optional : {A : Type 0} → (Data → Option A) → Option Data → Option (Option A)
optional fits None = Some None
optional fits (Some d) = if is_some (as_null d) then Some None else option_map Some (fits d)

abbrev pub whole_number : Data → Option ℕ
whole_number d = as_number d >>= as_u64

-- the place of the word that stands there in the list of item words
abbrev pub kind_of : List (List ℕ) → Option Data → Option ℕ
kind_of words there = there >>= as_str >>= (λ word. place_of word words)

-- the type is the place of its word in the list of item words
pub record Header : Type 0 where
  pub kind : ℕ
  pub length : Option ℕ
  pub content_type : Option (List ℕ)
  pub filename : Option (List ℕ)
  pub attachment_type : Option (List ℕ)

-- the fields of an item header; other keys are ignored
unfoldable pub header_of : List (List ℕ) → Data → Option Header
header_of words d = do
  word ← get (codes "type") d >>= as_str
  kind ← place_of word words
  length ← optional whole_number (get (codes "length") d)
  content_type ← optional as_str (get (codes "content_type") d)
  filename ← optional as_str (get (codes "filename") d)
  attachment_type ← optional as_str (get (codes "attachment_type") d)
  Some (record { kind = kind; length = length; content_type = content_type; filename = filename; attachment_type = attachment_type })

-- what stands at the keys of the fields
abbrev pub at_keys : Data → List (Option Data)
at_keys d = get (codes "type") d ∷ get (codes "length") d ∷ get (codes "content_type") d ∷ get (codes "filename") d ∷ get (codes "attachment_type") d ∷ []

-- the fields of the header that stands in these bytes, where it is one
unfoldable pub read_header : List (List ℕ) → List ℕ → Option Header
read_header words header = tree_of header >>= header_of words

-- what framing asks of a header: whether it is one, and the length that it states
unfoldable pub stated_length : List (List ℕ) → Reading
stated_length words header = option_map (λ h. h.length) (read_header words header)
