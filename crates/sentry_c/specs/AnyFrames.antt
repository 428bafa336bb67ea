-- The items of an envelope of any type as places in its bytes.
use Rattle.std.specs.Prelude.{◌≡◌, ◌≢◌, ◌⊎◌, ◌++◌, ◌-◌, ◌^◌, ◌≤◌, true, false, ℕ, List, length, drop, Option, Some, None}
use Rattle.sentry_framing.specs.Framing.{Frame, IsFault, IsFirstFrame, IsLineAndBody}
use Rattle.sentry_framing.specs.ItemWords.{kind_of_word, kind_place}
use Rattle.sentry_framing.specs.declared.error.EnvelopeError.{EnvelopeError}
use Rattle.sentry_framing.specs.declared.error.EnvelopeError.TheVariants.{InvalidHeader}
use Rattle.sentry_framing.specs.declared.kind.ItemKind.{ItemKind}
use Rattle.sentry_forward.specs.AnyHeader.{any_header, any_reading, is_object_line}
use Rattle.sentry_c.specs.Places.{Stands}
use Rattle.sentry_c.specs.declared.any_frames.CurdmesaAnyFrame.{CurdmesaAnyFrame}

-- the number of an item type; that of every other is the last one
abbrev pub kind_number : Option ItemKind → ℕ
kind_number None = 2 ^ 32 - 1
kind_number (Some kind) = kind_place kind

-- where reading goes on: at offset 0 behind the header line, which is one JSON object, else at the
-- offset
abbrev pub ItemsFrom : List ℕ → ℕ → List ℕ → Type 0
ItemsFrom bytes offset body =
    ((offset ≡ 0) × ((line : List ℕ) × IsLineAndBody bytes line body × (is_object_line line ≡ true)))
    ⊎ ((offset ≢ 0) × (offset ≤ length bytes) × (body ≡ drop offset bytes))

-- The first frame of what is left, with which the next item begins at an offset, is of the type
-- with this word.
pub record IsNextFrame (bytes : List ℕ) (offset : ℕ) (body : List ℕ) (frame : Frame) (next : ℕ) (word : List ℕ) : Type 0 where
  pub begins : ItemsFrom bytes offset body
  pub first : IsFirstFrame any_reading body frame (drop next bytes)
  pub within : next ≤ length bytes
  pub stated : Option ℕ
  pub says : any_header frame.header ≡ Some (record { word = word; length = stated })

-- the item, its header and its payload stand at their places
pub record IsItemPlaced (bytes : List ℕ) (found : CurdmesaAnyFrame) (item : List ℕ) (frame : Frame) : Type 0 where
  pub whole : Stands bytes found.item_offset found.item_length item
  pub header : Stands bytes found.header_offset found.header_length frame.header
  pub payload : Stands bytes found.payload_offset found.payload_length frame.payload

-- The next item stands at these places, and its type has this word.
pub record FindsItem (bytes : List ℕ) (offset : ℕ) (found : CurdmesaAnyFrame) (next : ℕ) (word : List ℕ) : Type 0 where
  pub body : List ℕ
  pub frame : Frame
  pub is : IsNextFrame bytes offset body frame next word
  pub item : List ℕ
  pub parts : body ≡ item ++ drop next bytes
  pub placed : IsItemPlaced bytes found item frame
  pub kind : found.kind ≡ kind_number (kind_of_word word)

-- the word of the next item's type
abbrev pub IsNextWord : List ℕ → ℕ → List ℕ → Type 0
IsNextWord bytes offset word = (body : List ℕ) × (frame : Frame) × (next : ℕ) × IsNextFrame bytes offset body frame next word

-- the header line is no JSON object, or what is left doesn't begin with a frame
abbrev pub IsItemFault : List ℕ → ℕ → EnvelopeError → Type 0
IsItemFault bytes offset error =
    ((error ≡ InvalidHeader) × ((line : List ℕ) × (body : List ℕ) × IsLineAndBody bytes line body × (is_object_line line ≡ false)))
    ⊎ ((body : List ℕ) × ItemsFrom bytes offset body × IsFault any_reading body error)
