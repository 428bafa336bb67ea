-- Envelopes, items and events that are made of the caller's texts.
use Rattle.std.specs.Prelude.{◌≡◌, ◌==◌, ℕ, ◌+◌, List, [], ◌∷◌, ◌++◌, length, map, if◌then◌else◌, Some, codes, ⊤}
use Rattle.std.specs.List.{All}
use Rattle.std.specs.Str.{IsUtf8}
use Rattle.json.specs.Print.{quoted}
use Rattle.serde_json.specs.Data.{string}
use Rattle.serde_json.specs.Read.{read}
use Rattle.sentry_framing.specs.Framing.{Frame, with_line}
use Rattle.sentry_framing.specs.declared.frames.ItemFrame.{ItemFrame}
use Rattle.sentry_making.specs.Making.{IsEnvelopeOf, IsHeaderLine, IsItem, envelope_text, made}
use Rattle.sentry_making.specs.declared.texts.TextMember.{TextMember}
use Rattle.sentry_c.specs.declared.pairs.CurdmesaPair.{CurdmesaPair}

-- ---- pairs of texts

abbrev pub Pair : Type 0
Pair = List ℕ × List ℕ

-- the texts of pairs, one after another
abbrev pub joined : List Pair → List ℕ
joined [] = []
joined (p ∷ ps) = p.0 ++ (p.1 ++ joined ps)

-- each pair has these lengths
abbrev pub HaveLengths : List Pair → List CurdmesaPair → Type 0
HaveLengths [] [] = ⊤
HaveLengths [] (l ∷ ls) = ⊥
HaveLengths (p ∷ ps) [] = ⊥
HaveLengths (p ∷ ps) (l ∷ ls) = (length p.0 ≡ l.first) × (length p.1 ≡ l.second) × HaveLengths ps ls

-- the texts are those of these pairs
pub record AreJoined (texts : List ℕ) (lengths : List CurdmesaPair) (pairs : List Pair) : Type 0 where
  pub texts_are : texts ≡ joined pairs
  pub lengths_are : HaveLengths pairs lengths

-- how many bytes all texts have
abbrev pub total : List CurdmesaPair → ℕ
total [] = 0
total (l ∷ ls) = l.first + (l.second + total ls)

-- each text is UTF-8
abbrev pub AreTexts : List Pair → Type 0
AreTexts = All (λ p. IsUtf8 p.0 × IsUtf8 p.1)

-- not all of the texts are UTF-8
abbrev pub HasNoTexts : List ℕ → List CurdmesaPair → Type 0
HasNoTexts texts lengths = (pairs : List Pair) × AreJoined texts lengths pairs × (AreTexts pairs → ⊥)

-- ---- envelopes

abbrev pub both : ItemFrame → Pair
both item = (item.header.now, item.payload.now)

abbrev pub frame_in : Pair → Frame
frame_in p = record { header = p.0; payload = p.1 }

-- the text is the envelope that is made of this header line and the items of these texts
pub record IsMade (line texts : List ℕ) (lengths : List CurdmesaPair) (text : List ℕ) : Type 0 where
  pub items : List Pair
  pub items_are : AreJoined texts lengths items
  pub line_is : IsHeaderLine line
  pub accepted : All IsItem (map frame_in items)
  pub text_is : text ≡ envelope_text line (map frame_in items)
  pub framed : IsEnvelopeOf line (map made (map frame_in items)) text

-- not all of the texts are items
abbrev pub HasNoItem : List ℕ → List CurdmesaPair → Type 0
HasNoItem texts lengths = (items : List Pair) × AreJoined texts lengths items × (All IsItem (map frame_in items) → ⊥)

-- ---- texts as JSON

-- the text as a JSON string, which is read as the text
pub record IsJsonText (given json : List ℕ) : Type 0 where
  pub text_is : json ≡ quoted given
  pub reads : read json ≡ Some (string given)

-- ---- events

abbrev pub pair_of : TextMember → Pair
pair_of m = (m.key.now, m.value.now)

-- a member, unless the text is empty
abbrev pub unless_empty : List ℕ → List ℕ → List Pair
unless_empty key text = if length text == 0 then [] else (key, text) ∷ []

abbrev pub event_members : (level message release environment : List ℕ) → List Pair
event_members level message release environment =
    unless_empty (codes "level") level ++ (unless_empty (codes "message") message ++ (unless_empty (codes "release") release ++ unless_empty (codes "environment") environment))

-- an envelope of one event
abbrev pub event_envelope : List ℕ → List ℕ
event_envelope payload = with_line (codes "{}") (with_line (codes "{\"type\":\"event\"}") payload)
