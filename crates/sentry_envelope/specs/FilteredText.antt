-- What a filter by item types leaves of an envelope and takes out of it, by what the items show, and
-- the text of what is left.
use Rattle.std.specs.Prelude.{◌≡◌, ℕ, Bool, true, false, not, ◌&&◌, ◌||◌, ◌==◌, List, [], ◌∷◌, map, filter, slice_get, ◌++◌, Option, Some, None}
use Rattle.std.specs.List.{list_any}
use Rattle.serde_json.specs.Written.{compact_text}
use Rattle.sentry_tables.specs.Cell.{Cell}
use Rattle.sentry_tables.specs.Written.{tree}
use Rattle.sentry_framing.specs.Framing.{Frame, IsLineAndBody, with_line}
use Rattle.sentry_framing.specs.ItemWords.{item_kinds, kind_place}
use Rattle.sentry_framing.specs.declared.kind.ItemKind.{ItemKind}
use Rattle.sentry_framing.specs.declared.kind.ItemKind.TheVariants as kinds
use Rattle.sentry_items.specs.Losses.{losses_of_item, losses_of_items}
use Rattle.sentry_items.specs.Texts.{bytes_of}
use Rattle.sentry_items.specs.declared.item.EnvelopeItem.{EnvelopeItem}
use Rattle.sentry_reports.specs.declared.item_loss.ItemLoss.{ItemLoss}
use Rattle.sentry_envelope.specs.Envelope.{Envelope, Item, item, raw, ItemShows, ItemsStand, Spells, envelope_norm, envelope_text, first_id, items_text}
use Rattle.sentry_envelope.specs.EnvelopeView.{IsStoredAndPlain, item_view}
use Rattle.sentry_envelope.specs.Filter.{header_left, id_in}
use Rattle.sentry_envelope.specs.HeaderFields.{given_id, header_kind, put_id}
use Rattle.sentry_envelope.specs.SentryProfile.{item_types, profile}
use Rattle.sentry_envelope.specs.declared.filtered.Left.{Left}

-- ---- types

-- the type is among these
abbrev pub is_among : List ItemKind → ItemKind → Bool
is_among kinds kind = list_any (λ k. kind_place k == kind_place kind) kinds

-- the type is none of these
abbrev pub is_none_of : List ItemKind → ItemKind → Bool
is_none_of kinds kind = not (is_among kinds kind)

-- ---- items

abbrev pub is_such : (ItemKind → Bool) → Option ItemKind → Bool
is_such is None = false
is_such is (Some kind) = is kind

-- the item has a type, and the type is such
abbrev pub is_of : (ItemKind → Bool) → Item → Bool
is_of is (item n c) = is_such is (slice_get item_kinds n)
is_of is raw = false

-- an event or a transaction
abbrev pub is_main_kind : ItemKind → Bool
is_main_kind kinds.Event = true
is_main_kind kinds.Transaction = true
is_main_kind _ = false

abbrev pub is_attachment_kind : ItemKind → Bool
is_attachment_kind kinds.Attachment = true
is_attachment_kind _ = false

-- an item is left if its type stays; an attachment only if an event or a transaction is left, too
abbrev pub is_left : (ItemKind → Bool) → Bool → Item → Bool
is_left stays main i = (main || not (is_of is_attachment_kind i)) && is_of stays i

-- an event or a transaction is left
abbrev pub has_main : (ItemKind → Bool) → List Item → Bool
has_main stays items = list_any (is_of is_main_kind) (filter (is_of stays) items)

-- the items that are left, in order
abbrev pub items_left : (ItemKind → Bool) → List Item → List Item
items_left stays items = filter (is_left stays (has_main stays items)) items

-- the other items, in order
abbrev pub items_taken : (ItemKind → Bool) → List Item → List Item
items_taken stays items = filter (λ i. not (is_left stays (has_main stays items) i)) items

-- ---- envelopes

-- Of an envelope that the bytes spell at the moment the filter leaves these items, below this header,
-- whose id is that of the first event or transaction that is left; the losses are those of the items
-- that it takes out.
pub record IsFiltered (stays : ItemKind → Bool) (keep_headers : Bool) (bytes : List ℕ) (now header : Cell) (left : List Item) (losses : List ItemLoss) : Type 0 where
  pub whole : Envelope
  pub spells : Spells profile bytes now whole
  pub left_is : left ≡ items_left stays whole.items
  pub header_is : header ≡ put_id (id_in (first_id item_types left)) (header_left keep_headers whole.header)
  pub taken : List EnvelopeItem
  pub taken_are : map item_view taken ≡ items_taken stays whole.items
  pub losses_are : losses ≡ losses_of_items taken

-- the same, and this is the text of what is left, which is not nothing, and of its normal form
pub record IsLeftText (stays : ItemKind → Bool) (keep_headers : Bool) (bytes : List ℕ) (now : Cell) (text : List ℕ) (losses : List ItemLoss) : Type 0 where
  pub header : Cell
  pub first : Item
  pub rest : List Item
  pub filtered : IsFiltered stays keep_headers bytes now header (first ∷ rest) losses
  pub text_is : text ≡ envelope_text profile (record { header = header; items = first ∷ rest })
  pub normal : text ≡ envelope_text profile (envelope_norm profile (record { header = header; items = first ∷ rest }))

-- the same, and no item is left
abbrev pub LeavesNothing : (ItemKind → Bool) → Bool → List ℕ → Cell → List ItemLoss → Type 0
LeavesNothing stays keep_headers bytes now losses = (header : Cell) × IsFiltered stays keep_headers bytes now header [] losses

-- the text of what the filter leaves, if anything is left
abbrev pub IsTextOfLeft : (ItemKind → Bool) → Bool → List ℕ → Cell → Option (List ℕ) → List ItemLoss → Type 0
IsTextOfLeft stays keep_headers bytes now None losses = LeavesNothing stays keep_headers bytes now losses
IsTextOfLeft stays keep_headers bytes now (Some text) losses = IsLeftText stays keep_headers bytes now text losses

-- ---- parts of the reading

abbrev pub is_some_item : Item → Bool
is_some_item i = true

-- the body of an envelope
abbrev pub IsBodyOf : List ℕ → List ℕ → Type 0
IsBodyOf bytes body = (line : List ℕ) × IsLineAndBody bytes line body

-- an event or a transaction is left of the items of an envelope, or none is, as this says
abbrev pub HasMain : (ItemKind → Bool) → List ℕ → Bool → Type 0
HasMain stays bytes has = (body : List ℕ) → IsBodyOf bytes body → (now : Cell) (items : List Item) → ItemsStand profile now body items [] → has_main stays items ≡ has

-- of the items of a body those that are left were written, and of the others the losses were listed
pub record IsLeft (stays : ItemKind → Bool) (now : Cell) (body : List ℕ) (left : Left) : Type 0 where
  pub items : List Item
  pub taken : List EnvelopeItem
  pub stand : ItemsStand profile now body items []
  pub text_is : bytes_of left.text ≡ items_text profile (items_left stays items)
  pub id_is : given_id left.id ≡ first_id item_types (items_left stays items)
  pub taken_are : map item_view taken ≡ items_taken stays items
  pub losses_are : left.losses.items ≡ losses_of_items taken
  pub any : left.any ≡ list_any is_some_item (items_left stays items)

-- the losses of an item that the frame shows were appended
unfoldable pub IsLost : Cell → Frame → List ItemLoss → List ItemLoss → Type 0
IsLost now frame old new = (i : EnvelopeItem) × ItemShows profile now frame (item_view i) × (new ≡ old ++ losses_of_item i)

-- the text of what is left below this header, if anything is
abbrev pub IsHeaded : Cell → Left → Option (List ℕ) → Type 0
IsHeaded header left None = left.any ≡ false
IsHeaded header left (Some text) = (left.any ≡ true) × (IsStoredAndPlain header_kind header → text ≡ with_line (compact_text (tree header_kind header)) [] ++ bytes_of left.text)
