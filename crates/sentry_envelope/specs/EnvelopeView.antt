-- What the values of this crate mean.
use Rattle.std.specs.Prelude.{◌≡◌, ℕ, List, [], ◌∷◌, ◌++◌, map, Option, Some, None, IsSomeAnd, ⊤}
use Rattle.sentry_tables.specs.Cell.{Cell, absent, fields, no_cells, cell}
use Rattle.serde_json.specs.Data.{no_members}
use Rattle.sentry_tables.specs.Kind.{Kind}
use Rattle.sentry_tables.specs.Meets.{IsPlain, IsStored}
use Rattle.sentry_event.specs.declared.event.Event.{Event}
use Rattle.sentry_framing.specs.ItemWords.{kind_place}
use Rattle.sentry_items.specs.View.{ItemView, attachment, replay_recording, value as value_view, raw as raw_view, item_held}
use Rattle.sentry_items.specs.declared.item.EnvelopeItem.{EnvelopeItem}
use Rattle.sentry_items.specs.declared.item.EnvelopeItem.TheVariants as item_variants
use Rattle.sentry_framing.specs.declared.kind.ItemKind.TheVariants as kinds
use Rattle.sentry_envelope.specs.Envelope.{Item, item, raw, attached, opaque, value, Envelope as Model, given_by, envelope_text, stored_content, plain_content, ItemsMeet, IsEnvelopePlain}
use Rattle.sentry_envelope.specs.HeaderFields.{header_kind, headers_cell, fill_id}
use Rattle.sentry_envelope.specs.SentryProfile.{item_types, profile}
use Rattle.uuid.specs.declared.Uuid.{Uuid}
use Rattle.sentry_envelope.specs.declared.envelope.Contents.{Contents}
use Rattle.sentry_envelope.specs.declared.envelope.Contents.TheVariants as variants
use Rattle.sentry_envelope.specs.declared.envelope.Envelope.{Envelope}
use Rattle.sentry_envelope.specs.declared.envelope.AddRefused.{AddRefused}
use Rattle.sentry_envelope.specs.declared.envelope.AddRefused.TheVariants as refusals

-- what an item holds, at the place of its type
abbrev pub placed : ItemView → Item
placed (attachment a) = item (kind_place kinds.Attachment) (attached a)
placed (replay_recording b) = item (kind_place kinds.ReplayRecording) (opaque b)
placed (value_view k c) = item (kind_place k) (value c)
placed raw_view = raw

abbrev pub item_view : EnvelopeItem → Item
item_view i = placed (item_held i)

-- ---- what an envelope holds: items, or bytes that nothing read

pub data Held : Type 0 where
  items : List Item → Held
  bytes : List ℕ → Held

abbrev pub held_in : Contents → Held
held_in (variants.Items is) = items (map item_view is.items)
held_in (variants.Raw b) = bytes b.items

abbrev pub held : Envelope → Held
held e = held_in e.contents

abbrev pub header_of : Envelope → Cell
header_of e = headers_cell e.headers

abbrev pub event_id_of : Envelope → Option Uuid
event_id_of e = e.headers.event_id

-- the same header, and the same items or bytes
abbrev pub IsSame : Envelope → Envelope → Type 0
IsSame a b = (header_of a ≡ header_of b) × (held a ≡ held b)

abbrev pub structured_by : Cell → Held → Option Model
structured_by h (items is) = Some (record { header = h; items = is })
structured_by h (bytes b) = None

-- a structured envelope by its header and items
abbrev pub structured : Envelope → Option Model
structured e = structured_by (header_of e) (held e)

abbrev pub bytes_in : Held → Option (List ℕ)
bytes_in (items is) = None
bytes_in (bytes b) = Some b

-- a raw envelope by its bytes
abbrev pub raw_bytes : Envelope → Option (List ℕ)
raw_bytes e = bytes_in (held e)

abbrev pub text_by : Cell → Held → List ℕ
text_by h (items is) = envelope_text profile (record { header = h; items = is })
text_by h (bytes b) = b

-- the text that is written
abbrev pub text_of : Envelope → List ℕ
text_of e = text_by (header_of e) (held e)

-- stored and plain: what writing needs so that its text is the value's
abbrev pub IsStoredAndPlain : Kind → Cell → Type 0
IsStoredAndPlain K c = IsStored K c × IsPlain K c

-- the same of each value in the items
abbrev pub AreStoredAndPlain : List Item → Type 0
AreStoredAndPlain is = ItemsMeet stored_content item_types is × ItemsMeet plain_content item_types is

-- the same of the header and the items, where there are items
abbrev pub StoredAndPlainBy : Cell → Held → Type 0
StoredAndPlainBy h (items is) = IsStoredAndPlain header_kind h × AreStoredAndPlain is
StoredAndPlainBy h (bytes b) = ⊤

abbrev pub PartsAreStoredAndPlain : Envelope → Type 0
PartsAreStoredAndPlain e = StoredAndPlainBy (header_of e) (held e)

-- it is structured and isn't plain
abbrev pub IsUnwritable : Envelope → Type 0
IsUnwritable e = IsSomeAnd (structured e) (λ m. IsEnvelopePlain profile m → ⊥)

abbrev pub items_in : Contents → List EnvelopeItem
items_in (variants.Items is) = is.items
items_in (variants.Raw b) = []

-- the items in order; a raw envelope has none
abbrev pub items_of : Envelope → List EnvelopeItem
items_of e = items_in e.contents

-- the first event among items
abbrev pub first_event : List EnvelopeItem → Option Event
first_event [] = None
first_event (item_variants.Event event ∷ is) = Some event.value
first_event (_ ∷ is) = first_event is

-- ---- making one

-- an envelope with this header and these items
abbrev pub model : Cell → List EnvelopeItem → Model
model header is = record { header = header; items = map item_view is }

abbrev pub no_fields : Cell
no_fields = fields (cell absent (cell absent (cell absent (cell absent (cell absent no_cells))))) no_members

abbrev pub empty : Model
empty = record { header = no_fields; items = [] }

-- one more item at the end; an absent header id becomes the one that it gives
abbrev pub with_item : Model → Item → Model
with_item e i = record { header = fill_id (given_by item_types i) e.header; items = e.items ++ i ∷ [] }

-- the item that is handed back
abbrev pub refused_item : AddRefused → EnvelopeItem
refused_item (refusals.RawEnvelope i) = i
refused_item (refusals.Memory i) = i
