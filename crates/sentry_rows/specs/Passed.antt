-- What a source has read and written that gives each row it takes to a text.
use Rattle.std.specs.Prelude.{◌≡◌, ℕ, List, None, Result, Ok, Err}
use Rattle.json.specs.Written.{Written}
use Rattle.serde_json.specs.Data.{Data, Items, Members, no_members, member}
use Rattle.sentry_tables.specs.Cell.{Cell, Cells, fields, sequence}
use Rattle.sentry_tables.specs.Kind.{Rule, Kind, Rows, ignored, table, list}
use Rattle.sentry_tables.specs.Passed.{ItemsRefused, ItemsRefusedAt}
use Rattle.sentry_tables.specs.Reading.{Only, Shown, Refused, RowShown, RowRefused, ShownAt, RefusedAt, RowShownAt, RowRefusedAt}
use Rattle.sentry_tables.specs.Shows.{Shows, ItemsShow}
use Rattle.sentry_tables.specs.Written.{rows_given}
use Rattle.sentry_tables.specs.Writes.{written, WritesMembers}
use Rattle.sentry_tables.specs.declared.error.TreeError.{TreeError}
use Rattle.sentry_tables.specs.declared.error.TreeError.TheVariants.{Memory}
use Rattle.sentry_writing.specs.Given.{row_given}
use Rattle.sentry_rows.specs.Fields.{ReadsField, ReadsFieldAt, ReadsOthers}
use Rattle.sentry_rows.specs.declared.passer.Passer.{Passer}

-- ---- one member

-- a value that the tree shows was written at the key
unfoldable pub MemberPassed : Kind → List ℕ → Data → Written → Written → Type 0
MemberPassed K key d old new = (c : Cell) × Shown K d c × WritesMembers (member key (written K c) no_members) old new

abbrev pub PassesMember : Kind → List ℕ → Data → Result (Unit {0}) TreeError → Written → Written → Type 0
PassesMember K key d (Ok u) old new = MemberPassed K key d old new
PassesMember K key d (Err e) old new = Only e (Refused K d)

-- values that the items show were written as a list at the key
unfoldable pub ListPassed : Kind → List ℕ → Items → Written → Written → Type 0
ListPassed K key ds old new = (cs : Cells) × ((now : Cell) → ItemsShow (Shows K now) ds cs) × WritesMembers (member key (written (list K) (sequence cs)) no_members) old new

abbrev pub PassesList : Kind → List ℕ → Items → Result (Unit {0}) TreeError → Written → Written → Type 0
PassesList K key ds (Ok u) old new = ListPassed K key ds old new
PassesList K key ds (Err e) old new = Only e (ItemsRefused K ds)

-- values that the items show now were written as a list at the key
unfoldable pub ListPassedAt : Cell → Kind → List ℕ → Items → Written → Written → Type 0
ListPassedAt now K key ds old new = (cs : Cells) × ItemsShow (Shows K now) ds cs × WritesMembers (member key (written (list K) (sequence cs)) no_members) old new

abbrev pub PassesListAt : Cell → Kind → List ℕ → Items → Result (Unit {0}) TreeError → Written → Written → Type 0
PassesListAt now K key ds (Ok u) old new = ListPassedAt now K key ds old new
PassesListAt now K key ds (Err e) old new = Only e (ItemsRefusedAt now K ds)

-- these members were written; what fails is want of memory alone
abbrev pub Gives : Members → Result (Unit {0}) TreeError → Written → Written → Type 0
Gives ms (Ok u) old new = WritesMembers ms old new
Gives ms (Err e) old new = e ≡ Memory

-- ---- one row

-- what the row shows was written
unfoldable pub RowPassed : List ℕ → Rule → Kind → Data → Written → Written → Type 0
RowPassed key r K d old new = (c : Cell) × RowShown key r K d c × WritesMembers (row_given key r K c) old new

abbrev pub PassesRow : List ℕ → Rule → Kind → Data → Result (Unit {0}) TreeError → Written → Written → Type 0
PassesRow key r K d (Ok u) old new = RowPassed key r K d old new
PassesRow key r K d (Err e) old new = Only e (RowRefused key r K d)

-- what the row shows now was written
unfoldable pub RowPassedAt : Cell → List ℕ → Rule → Kind → Data → Written → Written → Type 0
RowPassedAt now key r K d old new = (c : Cell) × RowShownAt now key r K d c × WritesMembers (row_given key r K c) old new

abbrev pub PassesRowAt : Cell → List ℕ → Rule → Kind → Data → Result (Unit {0}) TreeError → Written → Written → Type 0
PassesRowAt now key r K d (Ok u) old new = RowPassedAt now key r K d old new
PassesRowAt now key r K d (Err e) old new = Only e (RowRefusedAt now key r K d)

-- ---- a row, from one state of a passer to the next

-- the same text goes on with these members
abbrev pub GoesOn : {N : Type 0} → Passer N → Passer N → Members → Type 0
GoesOn a b ms = (b.out.ghost_name ≡ a.out.ghost_name) × WritesMembers ms a.out.now b.out.now

-- What was read was written while nothing failed, whatever the call returned.
unfoldable pub PassesField : {N : Type 0} → (N → Data) → List ℕ → Rule → Kind → Cell → Passer N → Passer N → Type 0
PassesField data_of key r K c a b =
    (x : Cell) × ReadsField data_of key r K x a.from b.from × (b.from.failed ≡ None → GoesOn a b (row_given key r K x))

unfoldable pub PassesFieldAt : {N : Type 0} → (N → Data) → Cell → List ℕ → Rule → Kind → Cell → Passer N → Passer N → Type 0
PassesFieldAt data_of now key r K c a b =
    (x : Cell) × ReadsFieldAt data_of now key r K x a.from b.from × (b.from.failed ≡ None → GoesOn a b (row_given key r K x))

-- what other members there are was read, and nothing written
unfoldable pub PassesOthers : {N : Type 0} → (N → Data) → List (List ℕ) → Members → Passer N → Passer N → Type 0
PassesOthers data_of names others a b = ReadsOthers data_of names others a.from b.from × (b.out ≡ a.out)

-- ---- the rows of an object

-- cells that the rows show at every moment were written
unfoldable pub RowsPassed : Rows → Data → Written → Written → Type 0
RowsPassed rows d old new = (cs : Cells) × Shown (table rows ignored) d (fields cs no_members) × WritesMembers (rows_given rows cs) old new

abbrev pub PassesRows : Rows → Data → Result (Unit {0}) TreeError → Written → Written → Type 0
PassesRows rows d (Ok u) old new = RowsPassed rows d old new
PassesRows rows d (Err e) old new = Only e (Refused (table rows ignored) d)

-- cells that the rows show now were written
unfoldable pub RowsPassedAt : Cell → Rows → Data → Written → Written → Type 0
RowsPassedAt now rows d old new = (cs : Cells) × ShownAt now (table rows ignored) d (fields cs no_members) × WritesMembers (rows_given rows cs) old new

abbrev pub PassesRowsAt : Cell → Rows → Data → Result (Unit {0}) TreeError → Written → Written → Type 0
PassesRowsAt now rows d (Ok u) old new = RowsPassedAt now rows d old new
PassesRowsAt now rows d (Err e) old new = Only e (RefusedAt now (table rows ignored) d)
