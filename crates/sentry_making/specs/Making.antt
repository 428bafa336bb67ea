-- Envelopes that are made of a header line and items, whose headers are made to state the length.
use Rattle.std.specs.Prelude.{◌≡◌, ◌⊎◌, ◌<◌, ◌^◌, ℕ, Bool, true, not, if◌then◌else◌, List, [], ◌∷◌, ◌++◌, Some, length, drop, codes, decimal, is_some, option_and_then}
use Rattle.std.specs.List.{All}
use Rattle.serde_json.specs.Find.{get}
use Rattle.sentry_json.specs.Balanced.{IsBalanced}
use Rattle.sentry_json.specs.Line.{newline, HasNoNewline}
use Rattle.sentry_framing.specs.Framing.{AreFrames, Frame, IsFramed, IsLineAndBody, with_line}
use Rattle.sentry_forward.specs.AnyHeader.{Typed, any_header, any_reading, is_object_line, json_of}

-- ---- what an envelope can be made of

-- one JSON object in one line
pub record IsHeaderLine (line : List ℕ) : Type 0 where
  pub no_newline : HasNoNewline line
  pub object : is_object_line line ≡ true

-- no member has the key `length`
unfoldable pub lacks_length : List ℕ → Bool
lacks_length header = not (is_some (option_and_then (get (codes "length")) (json_of header)))

-- The header is one JSON object with a type, without white space around it. It has no member
-- `length`, or states the payload's.
pub record IsItem (item : Frame) : Type 0 where
  pub typed : Typed
  pub balanced : IsBalanced item.header
  pub says : any_header item.header ≡ Some typed
  pub sized : length item.payload < 2 ^ 64
  pub right : (lacks_length item.header ≡ true) ⊎ (typed.length ≡ Some (length item.payload))

-- ---- what is made of it

-- the header with a member `length` in front of the others
abbrev pub with_length : ℕ → List ℕ → List ℕ
with_length n header = codes "{\"length\":" ++ (decimal n ++ 44 ∷ drop 1 header)

abbrev pub made_header : Frame → List ℕ
made_header item = if lacks_length item.header then with_length (length item.payload) item.header else item.header

-- the item as it is made
abbrev pub made : Frame → Frame
made item = record { header = made_header item; payload = item.payload }

abbrev pub item_text : Frame → List ℕ
item_text item = with_line (made_header item) (with_line item.payload [])

abbrev pub items_text : List Frame → List ℕ
items_text [] = []
items_text (item ∷ items) = item_text item ++ items_text items

abbrev pub envelope_text : List ℕ → List Frame → List ℕ
envelope_text line items = with_line line (items_text items)

-- ---- what is read of it

-- the text has this header line and these frames
abbrev pub IsEnvelopeOf : List ℕ → List Frame → List ℕ → Type 0
IsEnvelopeOf line frames text = (body : List ℕ) × IsLineAndBody text line body × IsFramed any_reading body frames

-- The envelope has this header line and these frames. Behind the line feeds any frames may follow
-- its own.
pub record GoesOn (bytes line : List ℕ) (frames : List Frame) (feeds : List ℕ) : Type 0 where
  pub object : is_object_line line ≡ true
  pub framed : IsEnvelopeOf line frames bytes
  pub feeds_are : All (λ b. b ≡ newline) feeds
  pub more : (text : List ℕ) (others : List Frame) → IsFramed any_reading text others → IsEnvelopeOf line (frames ++ others) (bytes ++ (feeds ++ text))

-- The text is the envelope's bytes, line feeds, and the item as it is made. Its header line is the
-- envelope's, and its frames are the envelope's and the item's.
pub record IsAppended (bytes : List ℕ) (item : Frame) (text : List ℕ) : Type 0 where
  pub line : List ℕ
  pub frames : List Frame
  pub feeds : List ℕ
  pub accepted : IsItem item
  pub object : is_object_line line ≡ true
  pub framed : IsEnvelopeOf line frames bytes
  pub feeds_are : All (λ b. b ≡ newline) feeds
  pub text_is : text ≡ bytes ++ (feeds ++ item_text item)
  pub appended : IsEnvelopeOf line (frames ++ made item ∷ []) text

-- ---- what is found on the way

-- Some frames were read, and `rest` is left. If that is nothing, any frames may follow behind the
-- line feeds. Only the crate's private clauses cite it.
pub record Due (bytes line body rest feeds : List ℕ) : Type 0 where
  pub frames : List Frame
  pub stand : AreFrames any_reading body frames rest
  pub feeds_are : All (λ b. b ≡ newline) feeds
  pub more : rest ≡ [] → (text : List ℕ) (others : List Frame) → IsFramed any_reading text others → IsEnvelopeOf line (frames ++ others) (bytes ++ (feeds ++ text))
