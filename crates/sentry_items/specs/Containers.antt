-- Containers: many values of one type in one item.
use Rattle.std.specs.Prelude.{◌≡◌, ℕ, List, [], ◌∷◌, length, codes, true, refl}
use Rattle.serde_json.specs.Data.{number, unsigned, string, Members, no_members, member}
use Rattle.sentry_tables.specs.Cell.{Cell, fields, no_cells, cell}
use Rattle.sentry_tables.specs.Fields.{Field, field, rows_of}
use Rattle.sentry_tables.specs.Kind.{Kind, list, must, ignored, table, no_rows, row, keys}
use Rattle.sentry_tables.specs.Written.{in_order}
use Rattle.sentry_tables.specs.Cells.{list_cell}
use Rattle.sentry_records.specs.Logs.{log_cell}
use Rattle.sentry_records.specs.Metrics.{metric_cell}
use Rattle.sentry_framing.specs.ItemWords.{kind_word}
use Rattle.sentry_framing.specs.declared.kind.ItemKind.{ItemKind}
use Rattle.sentry_framing.specs.declared.kind.ItemKind.TheVariants as kinds
use Rattle.sentry_items.specs.declared.container.ItemContainer.{ItemContainer}
use Rattle.sentry_items.specs.declared.container.ItemContainer.TheVariants as container
use Rattle.sentry_items.specs.declared.listed.Listed.{Listed}
use Rattle.sentry_items.specs.declared.listed.Lent.{Lent}

-- the kind of a container's payload: an object with a required array `items`; other keys are
-- ignored
abbrev pub container_kind : Kind → Kind
container_kind K = table (row (codes "items") must (list K) no_rows) ignored

-- a container of these values
abbrev pub items_cell : {T : Type 0} → (T → Cell) → List T → Cell
items_cell cell_of values = fields (cell (list_cell cell_of values) no_cells) no_members

abbrev pub container_cell : ItemContainer → Cell
container_cell (container.Logs logs) = items_cell log_cell logs.items
container_cell (container.Metrics metrics) = items_cell metric_cell metrics.items

-- the type of items that the container is
abbrev pub container_type : ItemContainer → ItemKind
container_type (container.Logs logs) = kinds.Logs
container_type (container.Metrics metrics) = kinds.Metrics

-- how many values it holds
abbrev pub container_len : ItemContainer → ℕ
container_len (container.Logs logs) = length logs.items
container_len (container.Metrics metrics) = length metrics.items

-- the content types of logs and of metrics
abbrev pub log_content_type : List ℕ
log_content_type = codes "application/vnd.sentry.items.log+json"

abbrev pub metric_content_type : List ℕ
metric_content_type = codes "application/vnd.sentry.items.trace-metric+json"

-- the content type that the item's header states
abbrev pub content_type : ItemContainer → List ℕ
content_type (container.Logs logs) = log_content_type
content_type (container.Metrics metrics) = metric_content_type

-- the header of a container of so many items: keys in byte order
abbrev pub counting_header : List ℕ → List ℕ → ℕ → Members
counting_header word content_type n =
    member (codes "content_type") (string content_type)
    (member (codes "item_count") (number (unsigned n))
    (member (codes "type") (string word) no_members))

-- the header of a container
abbrev pub counted_header : ItemContainer → Members
counted_header container = counting_header (kind_word (container_type container)) (content_type container) (container_len container)

-- ---- the payload as a table of one row

abbrev pub listed_fields : {T : Type 0} → Kind → (T → Cell) → List (Field (Listed T))
listed_fields K cell_of = field (codes "items") must (list K) (λ l. list_cell cell_of l.items.items) ∷ []

pub listed_in_order : {T : Type 0} (K : Kind) (cell_of : T → Cell) → in_order (keys (rows_of (listed_fields K cell_of))) ≡ true
listed_in_order K cell_of = refl

-- values that are lent have the same rows
abbrev pub lent_fields : {T : Type 0} → Kind → (T → Cell) → List (Field (Lent T))
lent_fields K cell_of = field (codes "items") must (list K) (λ l. list_cell cell_of l.items.now.items) ∷ []

pub lent_in_order : {T : Type 0} (K : Kind) (cell_of : T → Cell) → in_order (keys (rows_of (lent_fields K cell_of))) ≡ true
lent_in_order K cell_of = refl
