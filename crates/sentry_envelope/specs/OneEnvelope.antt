-- Bytes that spell at most one envelope at a moment: those in which no header and no item draws an id.
use Rattle.std.specs.Prelude.{◌≡◌, ℕ, List, Some, ⊤}
use Rattle.std.specs.List.{All}
use Rattle.sentry_tables.specs.Cell.{Cell}
use Rattle.sentry_tables.specs.Drawn.{NothingDrawnInText}
use Rattle.sentry_framing.specs.Framing.{Frame, IsLineAndBody, IsFramed}
use Rattle.sentry_framing.specs.ItemHeader.{Header, read_header}
use Rattle.sentry_envelope.specs.Profile.{Form, attachment_form, opaque_form, json_form, container_form, ItemType, words, at_place, Profile}
use Rattle.sentry_items.specs.Containers.{container_kind}
use Rattle.sentry_envelope.specs.Envelope.{Envelope, Spells, reads, envelope_text, IsEnvelopeStored, IsEnvelopePlain, IsEnvelopeReadable, IsEnvelopeSized}

-- ---- what is drawn

-- reading the payload by this form draws nothing
abbrev pub PayloadDrawsNothing : Form → List ℕ → Type 0
PayloadDrawsNothing attachment_form payload = ⊤
PayloadDrawsNothing opaque_form payload = ⊤
PayloadDrawsNothing (json_form K) payload = NothingDrawnInText K payload
PayloadDrawsNothing (container_form content_type K) payload = NothingDrawnInText (container_kind K) payload

-- the same by the type at this place
abbrev pub PayloadDrawsNothingAt : List ItemType → ℕ → List ℕ → Type 0
PayloadDrawsNothingAt ts n payload = at_place ts n ⊤ (λ t. PayloadDrawsNothing t.form payload)

-- the same by the type that the frame's header names
abbrev pub FrameDrawsNothing : Profile → Frame → Type 0
FrameDrawsNothing P frame = (h : Header) → read_header (words P.types) frame.header ≡ Some h → PayloadDrawsNothingAt P.types h.kind frame.payload

-- Nothing is drawn in the bytes: not in their header line, and where they are framed, in no frame.
pub record NothingDrawnIn (P : Profile) (bytes : List ℕ) : Type 0 where
  pub header : (line body : List ℕ) → IsLineAndBody bytes line body → NothingDrawnInText P.header line
  pub items : (line body : List ℕ) (frames : List Frame) → IsLineAndBody bytes line body → IsFramed (reads P) body frames → All (FrameDrawsNothing P) frames

-- ---- the law

-- At each moment bytes in which nothing is drawn spell at most one envelope.
abbrev pub HasOneEnvelope : Profile → Type 0
HasOneEnvelope P = (bytes : List ℕ) (now : Cell) (e f : Envelope) → NothingDrawnIn P bytes → Spells P bytes now e → Spells P bytes now f → e ≡ f

-- Nothing is drawn in the text of an envelope that is read back.
abbrev pub TextsDrawNothing : Profile → Type 0
TextsDrawNothing P = (e : Envelope) → IsEnvelopeStored P e → IsEnvelopePlain P e → IsEnvelopeReadable P e → IsEnvelopeSized P e → NothingDrawnIn P (envelope_text P e)
