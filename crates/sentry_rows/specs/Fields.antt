-- What a source of a table's rows has given, and what a reader of them has read.
use Rattle.std.specs.Prelude.{◌≡◌, ◌⊎◌, List, [], ◌∷◌, ℕ, Some, None, Result, Ok, Err}
use Rattle.serde_json.specs.Data.{Data, Members}
use Rattle.sentry_json.specs.Nodes.{object_data}
use Rattle.sentry_json.specs.Keys.{beside}
use Rattle.sentry_tables.specs.Cell.{Cell}
use Rattle.sentry_tables.specs.Fields.{Field}
use Rattle.sentry_tables.specs.Kind.{Rule, Kind}
use Rattle.sentry_tables.specs.Shows.{members_in}
use Rattle.sentry_tables.specs.Reading.{RowShown, RowRefused, RowShownAt, RowRefusedAt}
use Rattle.sentry_tables.specs.declared.error.TreeError.{TreeError}
use Rattle.sentry_tables.specs.declared.error.TreeError.TheVariants.{Misfit}
use Rattle.sentry_rows.specs.declared.reader.Reader.{Reader}

-- the tree of a reader, whatever holds it
abbrev pub read_of : {N : Type 0} → (N → Data) → Reader N → Data
read_of data_of r = object_data data_of r.object

-- what was read stands, or its failure is remembered; the first failure stays
unfoldable pub Keeps : {A N : Type 0} → Result A TreeError → A → Reader N → Reader N → Type 0
Keeps read v a b =
    (b.object ≡ a.object) × (b.failed ≡ None → (a.failed ≡ None) × (read ≡ Ok v)) × ((e : TreeError) → b.failed ≡ Some e → (a.failed ≡ Some e) ⊎ (read ≡ Err e)) × ((e : TreeError) → a.failed ≡ Some e → b.failed ≡ Some e)

-- the value is answered where nothing has failed, and else what has
abbrev pub Ends : {A N : Type 0} → Reader N → A → Result A TreeError → Type 0
Ends z v (Ok w) = (z.failed ≡ None) × (w ≡ v)
Ends z v (Err e) = z.failed ≡ Some e

-- while nothing fails the row shows the value, and a misfit comes only where the row is refused
unfoldable pub ReadsField : {N : Type 0} → (N → Data) → List ℕ → Rule → Kind → Cell → Reader N → Reader N → Type 0
ReadsField data_of key r K c a b =
    (b.object ≡ a.object) × (b.failed ≡ None → (a.failed ≡ None) × RowShown key r K (read_of data_of a) c) × (b.failed ≡ Some Misfit → (a.failed ≡ Some Misfit) ⊎ RowRefused key r K (read_of data_of a))

-- while nothing fails these are the members of other keys; no misfit comes of them
unfoldable pub ReadsOthers : {N : Type 0} → (N → Data) → List (List ℕ) → Members → Reader N → Reader N → Type 0
ReadsOthers data_of names others a b =
    (b.object ≡ a.object) × (b.failed ≡ None → (a.failed ≡ None) × (others ≡ beside names (members_in (read_of data_of a)))) × (b.failed ≡ Some Misfit → a.failed ≡ Some Misfit)

-- ---- at a moment

-- while nothing fails the row shows the value now, and a misfit comes only where it is refused now
unfoldable pub ReadsFieldAt : {N : Type 0} → (N → Data) → Cell → List ℕ → Rule → Kind → Cell → Reader N → Reader N → Type 0
ReadsFieldAt data_of now key r K c a b =
    (b.object ≡ a.object) × (b.failed ≡ None → (a.failed ≡ None) × RowShownAt now key r K (read_of data_of a) c) × (b.failed ≡ Some Misfit → (a.failed ≡ Some Misfit) ⊎ RowRefusedAt now key r K (read_of data_of a))

-- ---- row by row, whatever the source

-- each row of the table was taken, from one state of the source to the next
abbrev pub ReadsFields : {A S : Type 0} → (List ℕ → Rule → Kind → Cell → S → S → Type 0) → List (Field A) → A → S → S → Type 0
ReadsFields Takes [] v a z = a ≡ z
ReadsFields {A} {S} Takes (f ∷ fs) v a z = (b : S) × Takes f.key f.rule f.kind (f.part v) a b × ReadsFields Takes fs v b z

-- each row of the table was taken, and then the members of other keys
abbrev pub ReadsKept : {A S : Type 0} → (List ℕ → Rule → Kind → Cell → S → S → Type 0) → (List (List ℕ) → Members → S → S → Type 0) → List (Field A) → List (List ℕ) → A → Members → S → S → Type 0
ReadsKept {A} {S} Takes TakesOthers fs names v others a z = (b : S) × ReadsFields Takes fs v a b × TakesOthers names others b z

-- each row of the table was taken, at every moment or now, from one state of the source to the next
abbrev pub ReadsFieldsAt : {A S : Type 0} → (List ℕ → Rule → Kind → Cell → S → S → Type 0) → (Cell → List ℕ → Rule → Kind → Cell → S → S → Type 0) → Cell → List (Field A) → A → S → S → Type 0
ReadsFieldsAt Takes TakesAt now [] v a z = a ≡ z
ReadsFieldsAt {A} {S} Takes TakesAt now (f ∷ fs) v a z =
    (b : S) × (Takes f.key f.rule f.kind (f.part v) a b ⊎ TakesAt now f.key f.rule f.kind (f.part v) a b) × ReadsFieldsAt Takes TakesAt now fs v b z
