-- The items of an envelope as places in its bytes.
use Rattle.std.specs.Prelude.{◌≡◌, ◌≢◌, ◌⊎◌, ◌-◌, ◌≤◌, ℕ, List, length, drop, slice_index, Some}
use Rattle.sentry_json.specs.Line.{newline}
use Rattle.sentry_framing.specs.Framing.{Frame, IsFirstFrame, IsLineAndBody}
use Rattle.sentry_framing.specs.ItemHeader.{Header, read_header, stated_length}
use Rattle.sentry_framing.specs.ItemWords.{item_words}
use Rattle.sentry_c.specs.Places.{Stands}
use Rattle.sentry_c.specs.declared.frames.CurdmesaFrame.{CurdmesaFrame}

-- an item may begin at the offset: at 0, which stands for the header line, at the end, or after a
-- line feed
abbrev pub MayBegin : List ℕ → ℕ → Type 0
MayBegin bytes offset = (offset ≡ 0) ⊎ ((offset ≡ length bytes) ⊎ ((offset ≤ length bytes) × (slice_index bytes (offset - 1) ≡ newline)))

-- where reading goes on: at offset 0 after the header line, else at the offset
abbrev pub BodyFrom : List ℕ → ℕ → List ℕ → Type 0
BodyFrom bytes offset body =
    ((offset ≡ 0) × ((line : List ℕ) × IsLineAndBody bytes line body)) ⊎ ((offset ≢ 0) × (offset ≤ length bytes) × (body ≡ drop offset bytes))

-- the header and the payload of a frame stand at their places
pub record IsPlaced (bytes : List ℕ) (found : CurdmesaFrame) (frame : Frame) : Type 0 where
  pub header : Stands bytes found.header_offset found.header_length frame.header
  pub payload : Stands bytes found.payload_offset found.payload_length frame.payload

-- The first frame of what is left stands at these places, its header is of this type, and the next
-- item begins at an offset.
pub record FindsFrame (bytes : List ℕ) (offset : ℕ) (found : CurdmesaFrame) (next : ℕ) : Type 0 where
  pub body : List ℕ
  pub begins : BodyFrom bytes offset body
  pub frame : Frame
  pub first : IsFirstFrame (stated_length item_words) body frame (drop next bytes)
  pub within : next ≤ length bytes
  pub placed : IsPlaced bytes found frame
  pub fields : Header
  pub reads : read_header item_words frame.header ≡ Some fields
  pub kind : found.kind ≡ fields.kind
