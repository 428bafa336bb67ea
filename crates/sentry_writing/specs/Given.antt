-- The members that a table's rows give to a sink.
use Rattle.std.specs.Prelude.{List, ℕ, [], ◌∷◌, ◌≡◌, ◌↔◌, Bool, IsTrue}
use Rattle.serde_json.specs.Data.{Data, string, object, Members, no_members, member, put}
use Rattle.sentry_tables.specs.Cell.{Cell, Cells}
use Rattle.sentry_tables.specs.Fields.{Field}
use Rattle.sentry_tables.specs.Kind.{Rule, Kind, Rows, tag}
use Rattle.sentry_tables.specs.Meets.{RowMeets, IsPlain, IsStored}
use Rattle.sentry_tables.specs.Norm.{norm}
use Rattle.sentry_tables.specs.Written.{row_tree, rows_tree, given}
use Rattle.sentry_tables.specs.Writes.{written}

-- the members of one list, and then those of another
abbrev pub both : Members → Members → Members
both no_members ns = ns
both (member k d ms) ns = member k d (both ms ns)

-- the member that a row gives, or none
unfoldable pub row_given : List ℕ → Rule → Kind → Cell → Members
row_given k r K c = given k (row_tree r (written K) (norm K) c) no_members

-- the tree of a case: its rows, put among its tag and other members
unfoldable pub case_written : List ℕ → Rows → Cells → Members → Data
case_written word rows cs others = object (rows_tree rows cs (put tag (string word) others))

-- ---- what a sink did

-- these members were taken, and what was tested is plain where P holds, and stored where Q does
abbrev pub Took : {S : Type 0} → (S → S → Members → Type 0) → (S → S → Type 0 → Type 0 → Type 0) → Members → Type 0 → Type 0 → S → S → Type 0
Took Adds Tests ms P Q a b = Adds a b ms × Tests a b P Q

-- the row was taken, and its value was tested
unfoldable pub GivesRow : {S : Type 0} → (S → S → Members → Type 0) → (S → S → Type 0 → Type 0 → Type 0) → List ℕ → Rule → Kind → Cell → S → S → Type 0
GivesRow Adds Tests k r K c a b = Took Adds Tests (row_given k r K c) (RowMeets r (IsPlain K) c) (RowMeets r (IsStored K) c) a b

-- each row of the table was, from one state of the sink to the next
abbrev pub GivesRows : {S A : Type 0} → (S → S → Members → Type 0) → (S → S → Type 0 → Type 0 → Type 0) → List (Field A) → A → S → S → Type 0
GivesRows Adds Tests [] v a z = a ≡ z
GivesRows {S} Adds Tests (f ∷ fs) v a z = (b : S) × GivesRow Adds Tests f.key f.rule f.kind (f.part v) a b × GivesRows Adds Tests fs v b z

-- b is true where a is and P holds, and only then, and then Q holds too
abbrev pub Tested : Bool → Bool → Type 0 → Type 0 → Type 0
Tested a b P Q = (IsTrue b ↔ (IsTrue a × P)) × (IsTrue b → IsTrue a × Q)
