-- Structured envelopes: what bytes spell one, its text and its normal form.
use Rattle.std.specs.Prelude.{◌≡◌, ◌<◌, ◌≤◌, ◌^◌, ℕ, zero, List, [], ◌∷◌, length, Option, Some, None, option_map, unwrap_or, ⊤}
use Rattle.serde_json.specs.Data.{object, Members, depth}
use Rattle.serde_json.specs.Written.{compact_text}
use Rattle.sentry_tables.specs.Cell.{Cell, absent, Cells, no_cells, cell}
use Rattle.sentry_tables.specs.Kind.{Kind}
use Rattle.sentry_tables.specs.Norm.{norm, cells_of}
use Rattle.sentry_tables.specs.Passed.{count}
use Rattle.sentry_tables.specs.Written.{tree}
use Rattle.sentry_tables.specs.Meets.{IsPlain, IsReadable, IsStored}
use Rattle.sentry_tables.specs.Laws.{TextShows}
use Rattle.sentry_items.specs.AttachmentWords.{attachment_type_of}
use Rattle.sentry_items.specs.Attached.{Attached, short_header, attachment_header, attached_norm, IsAttachedStored}
use Rattle.sentry_framing.specs.Framing.{Frame, Reading, IsLineAndBody, IsFirstFrame, with_line}
use Rattle.sentry_framing.specs.ItemHeader.{Header, read_header, stated_length}
use Rattle.sentry_envelope.specs.Profile.{Form, attachment_form, opaque_form, json_form, container_form, ItemType, words, at_place, Profile}
use Rattle.sentry_items.specs.Containers.{container_kind, counting_header}

-- ---- values

pub data Content : Type 0 where
  attached : Attached → Content
  opaque : List ℕ → Content
  value : Cell → Content

pub data Item : Type 0 where
  -- the place of its type in the list of types, and what it holds
  item : ℕ → Content → Item
  -- an item that is not written
  raw : Item

pub record Envelope : Type 0 where
  pub header : Cell
  pub items : List Item

-- ---- what bytes spell

abbrev pub reads : Profile → Reading
reads P = stated_length (words P.types)

abbrev pub IsValue : (Cell → Type 0) → Content → Type 0
IsValue Q (value c) = Q c
IsValue Q _ = ⊥

abbrev pub attached_by : Header → List ℕ → Attached
attached_by h bytes = record {
  buffer = bytes;
  filename = unwrap_or h.filename [];
  content_type = h.content_type;
  ty = option_map attachment_type_of h.attachment_type;
}

-- with this item header, a payload of this form shows the content
abbrev pub ContentShows : Form → Cell → Header → List ℕ → Content → Type 0
ContentShows attachment_form now h payload c = c ≡ attached (attached_by h payload)
ContentShows opaque_form now h payload c = c ≡ opaque payload
ContentShows (json_form K) now h text c = IsValue (TextShows K now text) c
ContentShows (container_form content_type K) now h text c = IsValue (TextShows (container_kind K) now text) c

-- the same of the type at this place
abbrev pub ContentShowsAt : List ItemType → ℕ → Cell → Header → List ℕ → Content → Type 0
ContentShowsAt ts n now h payload c = at_place ts n ⊥ (λ t. ContentShows t.form now h payload c)

-- the frame shows the item: its header names the type, and its payload shows what the item holds
abbrev pub ItemShows : Profile → Cell → Frame → Item → Type 0
ItemShows P now frame (item n c) = (h : Header) × (read_header (words P.types) frame.header ≡ Some h) × (h.kind ≡ n) × ContentShowsAt P.types n now h frame.payload c
ItemShows P now frame raw = ⊥

-- these items stand first in a body, frame by frame, and this body follows them
abbrev pub ItemsStand : Profile → Cell → List ℕ → List Item → List ℕ → Type 0
ItemsStand P now body [] rest = body ≡ rest
ItemsStand P now body (i ∷ is) rest =
    (frame : Frame) × (next : List ℕ) × IsFirstFrame (reads P) body frame next × ItemShows P now frame i × ItemsStand P now next is rest

-- the id that a content gives: a value may give one, and no other content does
abbrev pub given_as : (Cell → Cell) → Content → Cell
given_as gives (value c) = gives c
given_as gives _ = absent

-- the same by the type at this place
abbrev pub given_at : List ItemType → ℕ → Content → Cell
given_at ts n c = at_place ts n absent (λ t. given_as t.gives c)

-- the id that an item gives its envelope
abbrev pub given_by : List ItemType → Item → Cell
given_by ts (item n c) = given_at ts n c
given_by ts raw = absent

abbrev pub or_else : Cell → Cell → Cell
or_else absent c = c
or_else d c = d

-- the id of the first item that gives one
abbrev pub first_id : List ItemType → List Item → Cell
first_id ts [] = absent
first_id ts (i ∷ is) = or_else (given_by ts i) (first_id ts is)

-- The bytes spell the envelope at the moment: the header line shows its header, but that an absent id is that of the first item
-- that gives one, and the frames of the body show its items in order.
pub record Spells (P : Profile) (bytes : List ℕ) (now : Cell) (e : Envelope) : Type 0 where
  pub line : List ℕ
  pub body : List ℕ
  pub shown : Cell
  pub parts : IsLineAndBody bytes line body
  pub line_shows : TextShows P.header now line shown
  pub header : e.header ≡ P.fill (first_id P.types e.items) shown
  pub items : ItemsStand P now body e.items []

-- ---- the text

abbrev pub first_cell : Cells → Cell
first_cell no_cells = absent
first_cell (cell c cs) = c

-- how many items a container holds
abbrev pub item_count : Cell → ℕ
item_count c = count (cells_of (first_cell (cells_of c)))

abbrev pub payload_by : Form → Content → List ℕ
payload_by f (attached a) = a.buffer
payload_by f (opaque b) = b
payload_by (json_form K) (value c) = compact_text (tree K c)
payload_by (container_form content_type K) (value c) = compact_text (tree (container_kind K) c)
payload_by _ (value c) = []

-- the header of a container
abbrev pub container_header : List ℕ → List ℕ → Cell → Members
container_header word content_type c = counting_header word content_type (item_count c)

abbrev pub header_by : List ℕ → Form → Content → Members
header_by word f (attached a) = attachment_header word a
header_by word (container_form content_type K) (value c) = container_header word content_type c
header_by word f c = short_header word (payload_by f c)

abbrev pub frame_by : ItemType → Content → Frame
frame_by t c = record { header = compact_text (object (header_by t.word t.form c)); payload = payload_by t.form c }

abbrev pub frame_at : List ItemType → ℕ → Content → Option Frame
frame_at ts n c = at_place ts n None (λ t. Some (frame_by t c))

-- the frame that is written for an item
abbrev pub frame_of_item : Profile → Item → Option Frame
frame_of_item P (item n c) = frame_at P.types n c
frame_of_item P raw = None

-- the header, NL, the payload, NL, and what follows
abbrev pub frame_text : Option Frame → List ℕ → List ℕ
frame_text None next = next
frame_text (Some frame) next = with_line frame.header (with_line frame.payload next)

abbrev pub items_text : Profile → List Item → List ℕ
items_text P [] = []
items_text P (i ∷ is) = frame_text (frame_of_item P i) (items_text P is)

-- The text of an envelope: the header line, then each item's header and payload, each ended by NL.
unfoldable pub envelope_text : Profile → Envelope → List ℕ
envelope_text P e = with_line (compact_text (tree P.header e.header)) (items_text P e.items)

-- ---- the normal form

abbrev pub content_norm : Form → Content → Content
content_norm f (attached a) = attached (attached_norm a)
content_norm f (opaque b) = opaque b
content_norm (json_form K) (value c) = value (norm K c)
content_norm (container_form content_type K) (value c) = value (norm (container_kind K) c)
content_norm _ (value c) = value c

abbrev pub content_norm_at : List ItemType → ℕ → Content → Content
content_norm_at ts n c = at_place ts n c (λ t. content_norm t.form c)

-- raw items are left out
abbrev pub items_norm : List ItemType → List Item → List Item
items_norm ts [] = []
items_norm ts (item n c ∷ is) = item n (content_norm_at ts n c) ∷ items_norm ts is
items_norm ts (raw ∷ is) = items_norm ts is

-- The normal form of an envelope: each field's own, and an absent header id is that of the first item that gives one.
unfoldable pub envelope_norm : Profile → Envelope → Envelope
envelope_norm P e = record {
  header = P.fill (first_id P.types e.items) (norm P.header e.header);
  items = items_norm P.types e.items;
}

-- ---- demands

-- what is asked of an attachment, and of a value by its kind; of other bytes nothing is asked
pub record ContentDemand : Type 1 where
  pub attached : Attached → Type 0
  pub value : Kind → Cell → Type 0

-- what Rust's types hold
abbrev pub stored_content : ContentDemand
stored_content = record { attached = IsAttachedStored; value = IsStored }

-- no tree in it holds a float, and no extra key clashes with a field
abbrev pub plain_content : ContentDemand
plain_content = record { attached = λ a. ⊤; value = IsPlain }

-- its printed texts are read back, and its JSON text nests at most 127 deep
abbrev pub readable_content : ContentDemand
readable_content = record { attached = λ a. ⊤; value = λ K c. IsReadable K c × (depth (tree K c) ≤ 127) }

abbrev pub ContentMeets : ContentDemand → Form → Content → Type 0
ContentMeets G attachment_form (attached a) = G.attached a
ContentMeets G opaque_form (opaque b) = ⊤
ContentMeets G (json_form K) (value c) = G.value K c
ContentMeets G (container_form content_type K) (value c) = G.value (container_kind K) c
ContentMeets G _ _ = ⊥

abbrev pub ContentMeetsAt : ContentDemand → List ItemType → ℕ → Content → Type 0
ContentMeetsAt G ts n c = at_place ts n ⊥ (λ t. ContentMeets G t.form c)

abbrev pub ItemsMeet : ContentDemand → List ItemType → List Item → Type 0
ItemsMeet G ts [] = ⊤
ItemsMeet G ts (item n c ∷ is) = ContentMeetsAt G ts n c × ItemsMeet G ts is
ItemsMeet G ts (raw ∷ is) = ItemsMeet G ts is

-- What Rust's types hold of each envelope of the program.
unfoldable pub IsEnvelopeStored : Profile → Envelope → Type 0
IsEnvelopeStored P e = IsStored P.header e.header × ItemsMeet stored_content P.types e.items

-- No tree in it holds a float, and no extra key clashes with a field.
unfoldable pub IsEnvelopePlain : Profile → Envelope → Type 0
IsEnvelopePlain P e = IsPlain P.header e.header × ItemsMeet plain_content P.types e.items

-- Its printed texts are read back, and each JSON line of its text nests at most 127 deep.
unfoldable pub IsEnvelopeReadable : Profile → Envelope → Type 0
IsEnvelopeReadable P e =
    IsReadable P.header e.header × (depth (tree P.header e.header) ≤ 127)
    × ItemsMeet readable_content P.types e.items

-- the number that an item's header states: of a container its items, and of any other payload its bytes
abbrev pub stated_by : Form → Content → ℕ
stated_by (container_form content_type K) (value c) = item_count c
stated_by f c = length (payload_by f c)

-- the same of the type at this place
abbrev pub stated_at : List ItemType → ℕ → Content → ℕ
stated_at ts n c = at_place ts n zero (λ t. stated_by t.form c)

abbrev pub ItemsAreSized : List ItemType → List Item → Type 0
ItemsAreSized ts [] = ⊤
ItemsAreSized ts (item n c ∷ is) = (stated_at ts n c < 2 ^ 64) × ItemsAreSized ts is
ItemsAreSized ts (raw ∷ is) = ItemsAreSized ts is

-- Each number that its items' headers state is below 2^64, as of any text in a machine's memory: it is a number that is read.
unfoldable pub IsEnvelopeSized : Profile → Envelope → Type 0
IsEnvelopeSized P e = ItemsAreSized P.types e.items
