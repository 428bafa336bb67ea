-- The id of an event or a transaction: its normal form holds the same, and it may fill a header.
use Rattle.std.proofs.Common.{◌≡◌, ℕ, List, [], ◌∷◌, Bool, true, false, cond, bytes_eq, Option, Some, Vec, Global, map, ◌++◌, if◌then◌else◌, refl, ap, ap₂, ◌∙◌, subst}
use Rattle.std.proofs.lemmas.List.{map-append}
use Rattle.std.proofs.lemmas.Option.{same_Some}
use Rattle.std.specs.Prelude.{is_some}
use Rattle.sentry_tables.specs.Cell.{Cell, absent, octets, fields, Cells, no_cells, cell}
use Rattle.sentry_tables.specs.Kind.{Rule, draw, Other, Kind, table, Rows, no_rows, row}
use Rattle.sentry_tables.specs.Norm.{norm, rows_norm, row_norm, is_null_of}
use Rattle.sentry_tables.specs.Meets.{RowsMeet, RowMeets, Meets, stored_demand, IsStored}
use Rattle.sentry_tables.specs.Fields.{rows_of}
use Rattle.sentry_identifiers.specs.Uuids.{IsUuid, hyphenated}
use Rattle.sentry_identifiers.proofs.UuidLaws.{uuid_normal}
use Rattle.sentry_event.specs.Events.{event_fields}
use Rattle.sentry_event.specs.Transactions.{transaction_fields}
use Rattle.sentry_items.specs.declared.container.ItemContainer.TheVariants as containers
use Rattle.sentry_items.specs.declared.item.EnvelopeItem.{EnvelopeItem}
use Rattle.sentry_items.specs.declared.item.EnvelopeItem.TheVariants as variants
use Rattle.uuid.specs.declared.Uuid.{Uuid}
use Rattle.sentry_envelope.specs.Envelope.{Envelope as Model, given_by, or_else, first_id}
use Rattle.sentry_envelope.specs.EnvelopeView.{items, item_view, header_of, held_in, structured, structured_by, with_item}
use Rattle.sentry_envelope.specs.declared.envelope.Contents.TheVariants as contents
use Rattle.sentry_envelope.specs.declared.envelope.Envelope.{Envelope}
use Rattle.sentry_envelope.specs.Filter.{id_in, id_of, first_id_of}
use Rattle.sentry_envelope.specs.HeaderFields.{header_fields, header_kind, header_in_order, fill_id, given_id}
use Rattle.sentry_envelope.specs.Profile.{FillLaws, GivesAlike}
use Rattle.sentry_envelope.specs.SentryProfile.{cell_at, held_at, item_types}
use Rattle.sentry_envelope.proofs.EnvelopeFill.{fill_place, place_fills}

-- ---- an id fills the second row of the header

fills_second : (b : List ℕ) (h : Cell) → fill_id (octets b) h ≡ fill_place 1 (octets b) h
fills_second b (fields (cell dsn (cell absent cs)) other) = refl
fills_second b (fields (cell dsn (cell _ cs)) other) = refl
fills_second b (fields (cell dsn no_cells) other) = refl
fills_second b (fields no_cells other) = refl
fills_second b _ = refl

pub id_fills : (b : List ℕ) → IsUuid (octets b) → FillLaws header_kind fill_id (octets b)
unfolding header_fields
id_fills b is = place_fills (rows_of header_fields) header_in_order 1 (octets b) (uuid_normal hyphenated (octets b) is, (λ c. refl), refl) fill_id (fills_second b)

any_id_fills : (c : Cell) → IsUuid c → FillLaws header_kind fill_id c
any_id_fills (octets b) is = id_fills b is
any_id_fills _ is = absurd is

-- ---- the row of an id

-- a row of ids that are drawn where they are absent: what is stored in it is an id, and its own
-- normal form
abbrev IsIdRow : Rule → Kind → Type 0
IsIdRow (draw Drawn) K = (c : Cell) → IsStored K c → IsUuid c × (norm K c ≡ c)
IsIdRow _ K = ⊥

-- the first row of this key is one
abbrev HasIds : List ℕ → Rows → Type 0
HasIds key no_rows = ⊥
HasIds key (row k r K rows) = cond (bytes_eq key k) (IsIdRow r K) (HasIds key rows)

-- a cell is an id, and the other is the same
abbrev IsSameId : Cell → Cell → Type 0
IsSameId c new = IsUuid c × (new ≡ c)

row_id : (r : Rule) (K : Kind) (c : Cell) → IsIdRow r K → RowMeets r (Meets stored_demand K) c → IsSameId c (row_norm r (is_null_of K) (norm K) c)
row_id (draw Drawn) K c ids stored = ids c stored
row_id _ K c ids stored = absurd ids

first_or_later : (first : Bool) (c new x y : Cell) (P Q : Type 0) → (P → IsSameId c new) → (Q → IsSameId x y) → cond first P Q → IsSameId (if first then c else x) (if first then new else y)
first_or_later true c new x y P Q here there ids = here ids
first_or_later false c new x y P Q here there ids = there ids

rows_id : (key : List ℕ) (rows : Rows) (cs : Cells) → HasIds key rows → RowsMeet stored_demand rows cs → IsSameId (cell_at key rows cs) (cell_at key rows (rows_norm rows cs))
rows_id key no_rows cs ids stored = absurd ids
rows_id key (row k r K rows) no_cells ids stored = absurd stored
rows_id key (row k r K rows) (cell c cs) ids stored =
    first_or_later (bytes_eq key k) c (row_norm r (is_null_of K) (norm K) c) (cell_at key rows cs) (cell_at key rows (rows_norm rows cs)) (IsIdRow r K) (HasIds key rows)
    (λ here. row_id r K c here stored.0) (λ there. rows_id key rows cs there stored.1) ids

-- ---- tables

-- a table with such a row gives its id
pub table_gives : (key : List ℕ) (rows : Rows) (other : Other) → HasIds key rows → GivesAlike header_kind fill_id (held_at key (table rows other)) (table rows other)
table_gives key rows other ids (fields cs ms) stored plain =
    let same = rows_id key rows cs ids stored.0 in
    (same.1, any_id_fills (cell_at key rows cs) same.0)
table_gives key rows other ids _ stored plain = absurd stored

-- ---- items

-- what an item gives is an id or nothing
pub gives_id_or_none : (i : EnvelopeItem) → given_id (id_in (given_by item_types (item_view i))) ≡ given_by item_types (item_view i)
unfolding event_fields transaction_fields
gives_id_or_none (variants.Event e) = refl
gives_id_or_none (variants.ItemContainer (containers.Logs logs)) = refl
gives_id_or_none (variants.ItemContainer (containers.Metrics metrics)) = refl
gives_id_or_none _ = refl

pub given_of : (i : EnvelopeItem) (id : Option Uuid) → id ≡ id_of i → given_id id ≡ given_by item_types (item_view i)
unfolding id_of
given_of i id is = ap given_id is ∙ gives_id_or_none i

choose : (given rest : Cell) (id : Option Uuid) → given_id (id_in given) ≡ given → rest ≡ given_id id → or_else given rest ≡ given_id (if is_some (id_in given) then id_in given else id)
choose absent rest id is more = more
choose (octets own) rest id is more = refl
choose _ rest id is more = absurd cc

-- the first id that items give
pub first_given : (xs : List EnvelopeItem) → first_id item_types (map item_view xs) ≡ given_id (first_id_of xs)
unfolding id_of
first_given [] = refl
first_given (x ∷ xs) = choose (given_by item_types (item_view x)) (first_id item_types (map item_view xs)) (first_id_of xs) (gives_id_or_none x) (first_given xs)

-- ---- one item is added

pub one_added : (e : Envelope) (held : Vec EnvelopeItem Global) (i : EnvelopeItem) (id : Option Uuid) (header : Cell) (all : List EnvelopeItem) (old : Model) → e.contents ≡ contents.Items held → id ≡ id_of i
    → header ≡ fill_id (given_id id) (header_of e) → all ≡ held.items ++ i ∷ [] → structured e ≡ Some old → structured_by header (items (map item_view all)) ≡ Some (with_item old (item_view i))
one_added e held i id header all old is gives filled pushed some =
    let own = same_Some (record { header = header_of e; items = map item_view held.items }) old (subst (λ c. structured_by (header_of e) (held_in c) ≡ Some old) is some) in
    let head = filled ∙ ap (λ g. fill_id g (header_of e)) (given_of i id gives) in
    let body = ap (map item_view) pushed ∙ map-append item_view held.items (i ∷ []) in
    ap₂ (λ h is. structured_by h (items is)) head body ∙ ap (λ m. Some (with_item m (item_view i))) own
