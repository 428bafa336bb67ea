-- The envelopes of Sentry: their header, and the types of their items.
use Rattle.std.specs.Prelude.{ℕ, List, map, codes, bytes_eq, cond, if◌then◌else◌}
use Rattle.sentry_tables.specs.Cell.{Cell, absent, fields, Cells, no_cells, cell}
use Rattle.sentry_tables.specs.Kind.{Kind, table, Rule, draw, Rows, no_rows, row}
use Rattle.sentry_tables.specs.Shows.{Shows}
use Rattle.serde_json.specs.Data.{Data}
use Rattle.sentry_identifiers.specs.Uuids.{simple_kind}
use Rattle.sentry_framing.specs.ItemWords.{item_kinds, kind_word}
use Rattle.sentry_framing.specs.declared.kind.ItemKind.{ItemKind}
use Rattle.sentry_framing.specs.declared.kind.ItemKind.TheVariants as kinds
use Rattle.sentry_event.specs.Events.{event_fields, event_kind}
use Rattle.sentry_event.specs.Transactions.{transaction_fields, transaction_kind}
use Rattle.sentry_records.specs.Logs.{log_kind}
use Rattle.sentry_records.specs.Metrics.{metric_kind}
use Rattle.sentry_items.specs.Containers.{log_content_type, metric_content_type}
use Rattle.sentry_items.specs.View.{payload_kind}
use Rattle.sentry_envelope.specs.Profile.{Form, attachment_form, opaque_form, json_form, container_form, ItemType, Profile}
use Rattle.sentry_envelope.specs.HeaderFields.{header_kind, fill_id}

-- ---- ids

-- the cell in the row of this key
abbrev pub cell_at : List ℕ → Rows → Cells → Cell
cell_at key no_rows cs = absent
cell_at key (row k r K rows) no_cells = absent
cell_at key (row k r K rows) (cell c cs) = if bytes_eq key k then c else cell_at key rows cs

-- what a value of a table holds in the row of this key
abbrev pub held_at : List ℕ → Kind → Cell → Cell
held_at key (table rows other) (fields cs ms) = cell_at key rows cs
held_at key _ _ = absent

abbrev pub IsDrawnId : Rule → Kind → Type 0
IsDrawnId (draw Drawn) K = (now : Cell) (d : Data) (c : Cell) → Shows K now d c → Shows simple_kind now d c
IsDrawnId _ K = ⊥

abbrev pub RowSaysId : List ℕ → Rows → Type 0
RowSaysId key no_rows = ⊥
RowSaysId key (row k r K rows) = cond (bytes_eq key k) (IsDrawnId r K) (RowSaysId key rows)

-- the first row of this key is of ids, which are drawn where they are absent
abbrev pub SaysId : List ℕ → Kind → Type 0
SaysId key (table rows other) = RowSaysId key rows
SaysId key _ = ⊥

pub event_says_id : SaysId (codes "event_id") event_kind
unfolding event_fields
event_says_id = λ now d c shows. shows

pub transaction_says_id : SaysId (codes "event_id") transaction_kind
unfolding transaction_fields
transaction_says_id = λ now d c shows. shows

-- ---- types of items

-- the form of a type's payloads
abbrev pub form_of : ItemKind → Form
form_of kinds.Attachment = attachment_form
form_of kinds.ReplayRecording = opaque_form
form_of kinds.Logs = container_form log_content_type log_kind
form_of kinds.Metrics = container_form metric_content_type metric_kind
form_of k = json_form (payload_kind k)

-- the id that a value of a type gives its envelope: an event or a transaction its own, and any
-- other none
abbrev pub gives_of : ItemKind → Cell → Cell
gives_of kinds.Event c = held_at (codes "event_id") (payload_kind kinds.Event) c
gives_of kinds.Transaction c = held_at (codes "event_id") (payload_kind kinds.Transaction) c
gives_of _ c = absent

abbrev pub item_type : ItemKind → ItemType
item_type k = record { word = kind_word k; form = form_of k; gives = gives_of k }

abbrev pub item_types : List ItemType
item_types = map item_type item_kinds

unfoldable pub profile : Profile
profile = record { header = header_kind; fill = fill_id; types = item_types }
