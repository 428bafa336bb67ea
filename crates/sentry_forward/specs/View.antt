-- What the types of this crate mean, and what forwarding does.
use Rattle.std.specs.Prelude.{◌≡◌, ◌≢◌, ◌&&◌, ℕ, Bool, true, false, not, if◌then◌else◌, List, [], ◌∷◌, ◌++◌, ◌⊎◌, Option, Some, map, length}
use Rattle.std.specs.List.{All, list_any}
use Rattle.std.specs.Borrow.{Bor}
use Rattle.std.specs.Cow.{cow_str_bytes}
use Rattle.sentry_framing.specs.Framing.{AreFrames, Frame, IsAtFault, IsLineAndBody}
use Rattle.sentry_framing.specs.ItemWords.{kind_of_word}
use Rattle.sentry_framing.specs.declared.error.EnvelopeError.{EnvelopeError}
use Rattle.sentry_framing.specs.declared.error.EnvelopeError.TheVariants.{InvalidHeader}
use Rattle.sentry_framing.specs.declared.kind.ItemKind.{ItemKind}
use Rattle.sentry_framing.specs.declared.kind.ItemKind.TheVariants as kinds
use Rattle.sentry_forward.specs.AnyHeader.{Typed, any_header, any_reading, is_object_line}
use Rattle.sentry_forward.specs.Forward.{Asked, Leaves, Piece, dropped, joined, kept}
use Rattle.sentry_forward.specs.Places.{StandsAt}
use Rattle.sentry_forward.specs.declared.frames.AnyFrame.{AnyFrame}
use Rattle.sentry_forward.specs.declared.forwarding.Forwarded.{Forwarded}

-- ---- frames

abbrev pub any_frame : AnyFrame → Frame
any_frame item = record { header = item.header.now; payload = item.payload.now }

abbrev pub word_of : AnyFrame → List ℕ
word_of item = cow_str_bytes item.word

-- what it tells of its header
abbrev pub says : AnyFrame → Typed
says item = record { word = word_of item; length = item.length }

abbrev pub piece_of : AnyFrame → Piece
piece_of item = record { frame = any_frame item; bytes = item.bytes.now }

-- the item, its header and its payload stand in the bytes where it tells
pub record IsPlaced (bytes : List ℕ) (item : AnyFrame) : Type 0 where
  pub whole : StandsAt bytes item.start item.bytes.now
  pub header : StandsAt bytes item.header_start item.header.now
  pub payload : StandsAt bytes item.payload_start item.payload.now

-- each tells what its header says
abbrev pub AreNamed : List AnyFrame → Type 0
AreNamed items = All (λ item. any_header item.header.now ≡ Some (says item)) items

-- ---- attachments and what they belong to

abbrev pub is_main_kind : Option ItemKind → Bool
is_main_kind (Some kinds.Event) = true
is_main_kind (Some kinds.Transaction) = true
is_main_kind _ = false

-- an event or a transaction, which attachments belong to
abbrev pub is_main : AnyFrame → Bool
is_main item = is_main_kind (kind_of_word (word_of item))

abbrev pub is_attachment_kind : Option ItemKind → Bool
is_attachment_kind (Some kinds.Attachment) = true
is_attachment_kind _ = false

abbrev pub is_attachment : AnyFrame → Bool
is_attachment item = is_attachment_kind (kind_of_word (word_of item))

-- an event or a transaction is dropped, and none is kept
abbrev pub loses_main : List AnyFrame → List Bool → Bool
loses_main items answers = list_any is_main (dropped items answers) && not (list_any is_main (kept items answers))

-- the answers, but that attachments are dropped
abbrev pub without_attachments : List AnyFrame → List Bool → List Bool
without_attachments [] answers = []
without_attachments (item ∷ items) [] = []
without_attachments (item ∷ items) (answer ∷ answers) = (answer && not (is_attachment item)) ∷ without_attachments items answers

-- attachments are dropped where they are orphaned
abbrev pub unless_orphaned : Bool → List AnyFrame → List Bool → List Bool
unless_orphaned orphaned items answers = if orphaned then without_attachments items answers else answers

-- what is decided after these answers: attachments may follow what they belong to
abbrev pub decided : Bool → List AnyFrame → List Bool → List Bool
decided follow items answers = unless_orphaned (follow && loses_main items answers) items answers

-- ---- forwarding

abbrev pub joined_parts : List (Bor (List ℕ)) → List ℕ
joined_parts [] = []
joined_parts (part ∷ parts) = part.now ++ joined_parts parts

-- the bytes that are left
abbrev pub text_of : Forwarded → List ℕ
text_of result = joined_parts result.parts.items

-- Behind the bytes before them the text has the items that are kept, and behind those gone before
-- the others go.
pub record Sorts (items : List AnyFrame) (decisions : List Bool) (before : List ℕ) (gone : List AnyFrame) (text : List ℕ) (all_gone : List AnyFrame) : Type 0 where
  pub text_is : text ≡ before ++ joined (kept (map piece_of items) decisions)
  pub gone_are : all_gone ≡ gone ++ dropped items decisions

-- A filter is asked about each frame, in order; the text is the bytes without the items of the
-- frames that are dropped after these answers.
pub record IsForwarded {F : Type 0} (ask : F → AnyFrame → Bool → F → Type 0) (follow : Bool) (bytes : List ℕ) (first last : F) (result : Forwarded) : Type 0 where
  pub line : List ℕ
  pub frames : List AnyFrame
  pub answers : List Bool
  pub object : is_object_line line ≡ true
  pub named : AreNamed frames
  pub placed : All (IsPlaced bytes) frames
  pub asked : Asked ask first frames answers last
  pub left : Leaves any_reading bytes line (map piece_of frames) (decided follow frames answers) (text_of result)
  pub gone : result.dropped.items ≡ dropped frames (decided follow frames answers)
  pub count : result.items ≡ length frames

-- the header line is no object, or is one and the body is at fault
pub record IsRefused (bytes : List ℕ) (error : EnvelopeError) : Type 0 where
  pub line : List ℕ
  pub body : List ℕ
  pub header : IsLineAndBody bytes line body
  pub fault : ((error ≡ InvalidHeader) × (is_object_line line ≡ false)) ⊎ ((is_object_line line ≡ true) × IsAtFault any_reading body error)

-- as many frames as may stand there stand, and bytes remain
pub record IsOver (bytes : List ℕ) (most : ℕ) : Type 0 where
  pub line : List ℕ
  pub body : List ℕ
  pub frames : List Frame
  pub rest : List ℕ
  pub header : IsLineAndBody bytes line body
  pub object : is_object_line line ≡ true
  pub stand : AreFrames any_reading body frames rest
  pub count : length frames ≡ most
  pub remains : rest ≢ []
