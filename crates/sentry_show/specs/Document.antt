-- The JSON document of an envelope.
use Rattle.std.specs.Prelude.{◌≡◌, ℕ, List, [], ◌∷◌, ◌++◌, Bool, codes, decimal, flat_map, length}
use Rattle.json.specs.Print.{print}
use Rattle.json.specs.Token.{Token, begin_array, begin_object, boolean, end_array, end_object, key, number, string}
use Rattle.sentry_forward.specs.View.{word_of}
use Rattle.sentry_forward.specs.declared.frames.AnyFrame.{AnyFrame}
use Rattle.sentry_show.specs.Rows.{AreRows}
use Rattle.sentry_show.specs.declared.survey.Row.{Row}

-- ---- members

unfoldable pub count_tokens : List ℕ → ℕ → List Token
count_tokens name count = key name ∷ number (decimal count) ∷ []

unfoldable pub flag_tokens : List ℕ → Bool → List Token
flag_tokens name flag = key name ∷ boolean flag ∷ []

unfoldable pub text_tokens : List ℕ → List ℕ → List Token
text_tokens name text = key name ∷ string text ∷ []

-- ---- items

unfoldable pub item_place : AnyFrame → List Token
item_place frame = count_tokens (codes "start") frame.start ++ count_tokens (codes "length") (length frame.bytes.now)

unfoldable pub header_place : AnyFrame → List Token
header_place frame = count_tokens (codes "header_start") frame.header_start ++ count_tokens (codes "header_length") (length frame.header.now)

unfoldable pub payload_place : AnyFrame → List Token
payload_place frame = count_tokens (codes "payload_start") frame.payload_start ++ count_tokens (codes "payload_length") (length frame.payload.now)

-- where a frame, its header and its payload stand
unfoldable pub places : AnyFrame → List Token
places frame = item_place frame ++ (header_place frame ++ payload_place frame)

-- an object: the type, whether it is accepted, and the places
unfoldable pub row_tokens : Row → List Token
row_tokens row =
    begin_object ∷ [] ++ (text_tokens (codes "type") (word_of row.frame) ++ (flag_tokens (codes "accepted") row.accepted ++ (places row.frame ++ end_object ∷ [])))

-- ---- the document

-- the first members: the envelope's size, whether it is accepted, and its items
unfoldable pub front : ℕ → Bool → List Row → List Token
front size accepted rows =
    begin_object ∷ [] ++ (count_tokens (codes "bytes") size ++ (flag_tokens (codes "accepted") accepted ++ (key (codes "items") ∷ begin_array ∷ [] ++ (flat_map row_tokens rows ++ end_array ∷ []))))

-- The text begins with the members that tell the verdict and the frames of the envelope.
pub record IsDocument (bytes : List ℕ) (accepted : Bool) (text : List ℕ) : Type 0 where
  pub rows : List Row
  pub are_rows : AreRows bytes rows
  pub after : List ℕ
  pub text_is : text ≡ print (front (length bytes) accepted rows) ++ 44 ∷ after
