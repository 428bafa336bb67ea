-- What a filter does to an envelope: the answers that it gives, the items that stay, and the calls
-- that are made of it.
use Rattle.std.specs.Prelude.{◌≡◌, Bool, true, false, not, List, [], ◌∷◌, ◌++◌, filter, map, length, if◌then◌else◌, Option, Some, None, is_some}
use Rattle.std.specs.List.{list_any, filter_map}
use Rattle.std.specs.Option.{IsSomeAnd}
use Rattle.uuid.specs.declared.Uuid.{Uuid}
use Rattle.sentry_tables.specs.Cell.{Cell, octets}
use Rattle.sentry_items.specs.declared.item.EnvelopeItem.{EnvelopeItem}
use Rattle.sentry_items.specs.declared.item.EnvelopeItem.TheVariants as item_variants
use Rattle.sentry_envelope.specs.Envelope.{given_by}
use Rattle.sentry_envelope.specs.EnvelopeView.{item_view, header_of, no_fields}
use Rattle.sentry_envelope.specs.HeaderFields.{put_id}
use Rattle.sentry_envelope.specs.SentryProfile.{item_types}
use Rattle.sentry_envelope.specs.declared.envelope.Contents.{Contents}
use Rattle.sentry_envelope.specs.declared.envelope.Contents.TheVariants as variants
use Rattle.sentry_envelope.specs.declared.envelope.Envelope.{Envelope}

-- ---- items

abbrev pub id_in : Cell → Option Uuid
id_in (octets id) = Some id
id_in _ = None

-- the id that an item gives its envelope: that of an event or a transaction
unfoldable pub id_of : EnvelopeItem → Option Uuid
id_of item = id_in (given_by item_types (item_view item))

-- an event or a transaction
abbrev pub is_main : EnvelopeItem → Bool
is_main item = is_some (id_of item)

-- the id of the first event or transaction
abbrev pub first_id_of : List EnvelopeItem → Option Uuid
first_id_of [] = None
first_id_of (item ∷ items) = if is_main item then id_of item else first_id_of items

-- an attachment, which makes no sense without an event or a transaction beside it
unfoldable pub is_orphan : EnvelopeItem → Bool
is_orphan (item_variants.Attachment attachment) = true
is_orphan _ = false

-- ---- answers and calls

-- one call of a filter: it is asked about an item and answers, or an item is handed over to it
pub data Call : Type 0 where
  Ask : EnvelopeItem → Bool → Call
  Hand : EnvelopeItem → Call

-- the items that were answered yes
abbrev pub chosen : List EnvelopeItem → List Bool → List EnvelopeItem
chosen [] answers = []
chosen (item ∷ items) [] = []
chosen (item ∷ items) (true ∷ answers) = item ∷ chosen items answers
chosen (item ∷ items) (false ∷ answers) = chosen items answers

-- the attachments among chosen items that have no event or transaction beside them
abbrev pub orphans : List EnvelopeItem → List EnvelopeItem
orphans items = if list_any is_main items then [] else filter is_orphan items

-- the chosen items without the orphans
abbrev pub kept : List EnvelopeItem → List EnvelopeItem
kept items = if list_any is_main items then items else filter (λ item. not (is_orphan item)) items

-- for each item an ask, and directly after a no a hand of that item
abbrev pub asks : List EnvelopeItem → List Bool → List Call
asks [] answers = []
asks (item ∷ items) [] = []
asks (item ∷ items) (true ∷ answers) = Ask item true ∷ asks items answers
asks (item ∷ items) (false ∷ answers) = Ask item false ∷ Hand item ∷ asks items answers

-- the asks, and then a hand of each orphan
abbrev pub calls : List EnvelopeItem → List Bool → List Call
calls items answers = asks items answers ++ map Hand (orphans (chosen items answers))

-- the item of a hand
abbrev pub item_of_hand : Call → Option EnvelopeItem
item_of_hand (Ask item answer) = None
item_of_hand (Hand item) = Some item

-- the items of the hands, in order
abbrev pub handed : List EnvelopeItem → List Bool → List EnvelopeItem
handed items answers = filter_map item_of_hand (calls items answers)

-- the calls, one after another, lead from one state of a filter to another
abbrev pub Run : {F : Type 0} → (F → EnvelopeItem → Bool → F → Type 0) → (F → EnvelopeItem → F → Type 0) → F → List Call → F → Type 0
Run ask hand first [] last = last ≡ first
Run {F} ask hand first (Ask item answer ∷ rest) last = (next : F) × ask first item answer next × Run ask hand next rest last
Run {F} ask hand first (Hand item ∷ rest) last = (next : F) × hand first item next × Run ask hand next rest last

-- a filter is asked about each of the items, and goes from one state to another; these are chosen
pub record Asks {F : Type 0} (ask : F → EnvelopeItem → Bool → F → Type 0) (hand : F → EnvelopeItem → F → Type 0) (items : List EnvelopeItem) (first last : F) (left : List EnvelopeItem) : Type 0 where
  pub answers : List Bool
  pub complete : length answers ≡ length items
  pub run : Run ask hand first (asks items answers) last
  pub left_is : left ≡ chosen items answers

-- for some answers, one an item, the calls lead a filter from one state to another, and these items
-- are kept
pub record Filters {F : Type 0} (ask : F → EnvelopeItem → Bool → F → Type 0) (hand : F → EnvelopeItem → F → Type 0) (items : List EnvelopeItem) (first last : F) (left : List EnvelopeItem) : Type 0 where
  pub answers : List Bool
  pub complete : length answers ≡ length items
  pub run : Run ask hand first (calls items answers) last
  pub left_is : left ≡ kept (chosen items answers)

-- ---- envelopes

abbrev pub asked_in : Contents → List EnvelopeItem
asked_in (variants.Items items) = items.items
asked_in (variants.Raw bytes) = item_variants.Raw ∷ []

-- the items that a filter is asked about: those of the envelope, or `Raw` where it has only bytes
abbrev pub asked_items : Envelope → List EnvelopeItem
asked_items envelope = asked_in envelope.contents

abbrev pub structured_in : Contents → Option (List EnvelopeItem)
structured_in (variants.Items items) = Some items.items
structured_in (variants.Raw bytes) = None

-- the header of what is left, but for its id: as it was, or without fields
abbrev pub header_left : Bool → Cell → Cell
header_left keep_headers header = if keep_headers then header else no_fields

-- a structured envelope of these items, in order, with this header, but that its id is that of the
-- first event or transaction among the items
pub record IsMadeOf (header : Cell) (items : List EnvelopeItem) (envelope : Envelope) : Type 0 where
  pub items_are : structured_in envelope.contents ≡ Some items
  pub header_is : header_of envelope ≡ put_id (first_id_of items) header

abbrev pub LeavesOf : Contents → Cell → Envelope → List EnvelopeItem → Option Envelope → Type 0
LeavesOf contents header envelope [] answer = answer ≡ None
LeavesOf (variants.Items items) header envelope (item ∷ rest) answer = IsSomeAnd answer (IsMadeOf header (item ∷ rest))
LeavesOf (variants.Raw bytes) header envelope (item ∷ rest) answer = answer ≡ Some envelope

-- what is left of an envelope where these items are kept: nothing without an item, the whole where
-- it has only bytes, and else an envelope of the kept items
abbrev pub Leaves : Cell → Envelope → List EnvelopeItem → Option Envelope → Type 0
Leaves header envelope left answer = LeavesOf envelope.contents header envelope left answer

-- a filter goes over an envelope, from one state to another, and leaves this answer, with this
-- header but for its id
pub record FiltersEnvelope {F : Type 0} (header : Cell) (ask : F → EnvelopeItem → Bool → F → Type 0) (hand : F → EnvelopeItem → F → Type 0) (envelope : Envelope) (first last : F) (answer : Option Envelope) : Type 0 where
  pub left : List EnvelopeItem
  pub filters : Filters ask hand (asked_items envelope) first last left
  pub leaves : Leaves header envelope left answer
