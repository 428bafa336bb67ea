-- What is written of a tree while it is read, without a value of the whole between.
use Rattle.std.specs.Prelude.{◌≡◌, ℕ, zero, suc, List, [], ◌∷◌, Result, Ok, Err}
use Rattle.std.specs.Borrow.{Bor}
use Rattle.json.specs.Written.{Written}
use Rattle.serde_json.specs.Data.{Data, Items, Members, no_members, member}
use Rattle.sentry_tables.specs.Cell.{Cell, sequence, fields, Cells, no_cells, cell, Entries}
use Rattle.sentry_tables.specs.Kind.{Kind, list, must, ignored, table, no_rows, row}
use Rattle.sentry_tables.specs.Shows.{Shows, ItemsShow, MembersShow}
use Rattle.sentry_tables.specs.Reading.{Only, Shown, Refused, ShownAt, RefusedAt, TextShown, TextRefused, TextShownAt, TextRefusedAt}
use Rattle.sentry_tables.specs.Written.{items_tree, members_tree}
use Rattle.sentry_tables.specs.Writes.{written, WritesTree, WritesItems, WritesMembers}
use Rattle.sentry_tables.specs.declared.error.TreeError.{TreeError}

-- ---- at every moment

-- a value that the tree shows was written
unfoldable pub Passed : Kind → Data → Written → Written → Type 0
Passed K d old new = (c : Cell) × Shown K d c × WritesTree (written K c) old new

abbrev pub Passes : Kind → Data → Result (Unit {0}) TreeError → Written → Written → Type 0
Passes K d (Ok u) old new = Passed K d old new
Passes K d (Err e) old new = Only e (Refused K d)

-- values that the items show were written
unfoldable pub ItemsPassed : Kind → Items → Written → Written → Type 0
ItemsPassed K ds old new = (cs : Cells) × ((now : Cell) → ItemsShow (Shows K now) ds cs) × WritesItems (items_tree (written K) cs) old new

-- an item shows no value
unfoldable pub ItemsRefused : Kind → Items → Type 0
ItemsRefused K ds = (now : Cell) (cs : Cells) → ItemsShow (Shows K now) ds cs → ⊥

abbrev pub PassesItems : Kind → Items → Result (Unit {0}) TreeError → Written → Written → Type 0
PassesItems K ds (Ok u) old new = ItemsPassed K ds old new
PassesItems K ds (Err e) old new = Only e (ItemsRefused K ds)

-- values that the members show were written, each at its key
unfoldable pub MembersPassed : Kind → Members → Written → Written → Type 0
MembersPassed K ms old new = (es : Entries) × ((now : Cell) → MembersShow (λ k. Shows K now) ms es) × WritesMembers (members_tree (written K) es) old new

-- a member shows no value
unfoldable pub MembersRefused : Kind → Members → Type 0
MembersRefused K ms = (now : Cell) (es : Entries) → MembersShow (λ k. Shows K now) ms es → ⊥

abbrev pub PassesMembers : Kind → Members → Result (Unit {0}) TreeError → Written → Written → Type 0
PassesMembers K ms (Ok u) old new = MembersPassed K ms old new
PassesMembers K ms (Err e) old new = Only e (MembersRefused K ms)

-- ---- at a moment

-- a value that the tree shows now was written
unfoldable pub PassedAt : Cell → Kind → Data → Written → Written → Type 0
PassedAt now K d old new = (c : Cell) × ShownAt now K d c × WritesTree (written K c) old new

abbrev pub PassesAt : Cell → Kind → Data → Result (Unit {0}) TreeError → Written → Written → Type 0
PassesAt now K d (Ok u) old new = PassedAt now K d old new
PassesAt now K d (Err e) old new = Only e (RefusedAt now K d)

-- values that the items show now were written
unfoldable pub ItemsPassedAt : Cell → Kind → Items → Written → Written → Type 0
ItemsPassedAt now K ds old new = (cs : Cells) × ItemsShow (Shows K now) ds cs × WritesItems (items_tree (written K) cs) old new

-- an item shows no value now
unfoldable pub ItemsRefusedAt : Cell → Kind → Items → Type 0
ItemsRefusedAt now K ds = (cs : Cells) → ItemsShow (Shows K now) ds cs → ⊥

abbrev pub PassesItemsAt : Cell → Kind → Items → Result (Unit {0}) TreeError → Written → Written → Type 0
PassesItemsAt now K ds (Ok u) old new = ItemsPassedAt now K ds old new
PassesItemsAt now K ds (Err e) old new = Only e (ItemsRefusedAt now K ds)

-- ---- lines

-- a value that the line shows was written
unfoldable pub TextPassed : Kind → List ℕ → Written → Written → Type 0
TextPassed K line old new = (c : Cell) × TextShown K line c × WritesTree (written K c) old new

abbrev pub PassesText : Kind → List ℕ → Result (Unit {0}) TreeError → Written → Written → Type 0
PassesText K line (Ok u) old new = TextPassed K line old new
PassesText K line (Err e) old new = Only e (TextRefused K line)

-- ---- lines, at a moment

-- a value that the line shows now was written
unfoldable pub TextPassedAt : Cell → Kind → List ℕ → Written → Written → Type 0
TextPassedAt now K line old new = (c : Cell) × TextShownAt now K line c × WritesTree (written K c) old new

abbrev pub PassesTextAt : Cell → Kind → List ℕ → Result (Unit {0}) TreeError → Written → Written → Type 0
PassesTextAt now K line (Ok u) old new = TextPassedAt now K line old new
PassesTextAt now K line (Err e) old new = Only e (TextRefusedAt now K line)

-- ---- lists in lines

abbrev pub count : Cells → ℕ
count no_cells = zero
count (cell c cs) = suc (count cs)

-- the line is an object with a list of so many values at the key, and they were written
unfoldable pub ListPassed : Kind → List ℕ → List ℕ → ℕ → Written → Written → Type 0
ListPassed K key line n old new =
    (cs : Cells) × (count cs ≡ n) × TextShown (table (row key must (list K) no_rows) ignored) line (fields (cell (sequence cs) no_cells) no_members) × WritesItems (items_tree (written K) cs) old new

-- ---- members in a map

-- the members that a map of nodes holds
abbrev pub members_held : {N : Type 0} → (N → Data) → List (Bor (List ℕ) × Bor N) → Members
members_held data_of [] = no_members
members_held data_of (e ∷ es) = member e.0.now (data_of e.1.now) (members_held data_of es)
