-- What a reader of a tree answers.
use Rattle.std.specs.Prelude.{◌≡◌, ℕ, List, [], ◌∷◌, bytes_eq, cond, Option, Some, Result, Ok, Err}
use Rattle.serde_json.specs.Data.{Data}
use Rattle.serde_json.specs.Find.{get}
use Rattle.sentry_json.specs.Keys.{at_keys}
use Rattle.sentry_json.specs.Line.{tree_of}
use Rattle.sentry_tables.specs.Cell.{Cell}
use Rattle.sentry_tables.specs.Kind.{Rule, Kind, Rows, no_rows, row, keys}
use Rattle.sentry_tables.specs.Shows.{Shows, RowShows}
use Rattle.sentry_tables.specs.Laws.{TextShows}
use Rattle.sentry_tables.specs.declared.error.TreeError.{TreeError}
use Rattle.sentry_tables.specs.declared.error.TreeError.TheVariants.{Misfit, Memory}

-- a misfit comes only with P
abbrev pub Only : TreeError → Type 0 → Type 0
Only Misfit P = P
Only Memory P = Unit {0}

-- ---- at a moment

unfoldable pub ShownAt : Cell → Kind → Data → Cell → Type 0
ShownAt now K d c = Shows K now d c

-- no value is shown
unfoldable pub RefusedAt : Cell → Kind → Data → Type 0
RefusedAt now K d = (c : Cell) → Shows K now d c → ⊥

unfoldable pub RowShownAt : Cell → List ℕ → Rule → Kind → Data → Cell → Type 0
RowShownAt now key r K d c = RowShows r (Shows K now) now (get key d) c

-- at the key the tree d has nothing that the row takes
unfoldable pub RowRefusedAt : Cell → List ℕ → Rule → Kind → Data → Type 0
RowRefusedAt now key r K d = (c : Cell) → RowShows r (Shows K now) now (get key d) c → ⊥

abbrev pub ReadsAt : {A : Type 0} → Cell → Kind → (A → Cell) → Data → Result A TreeError → Type 0
ReadsAt now K f d (Ok v) = ShownAt now K d (f v)
ReadsAt now K f d (Err e) = Only e (RefusedAt now K d)

abbrev pub ReadsRowAt : {A : Type 0} → Cell → List ℕ → Rule → Kind → (A → Cell) → Data → Result A TreeError → Type 0
ReadsRowAt now key r K f d (Ok v) = RowShownAt now key r K d (f v)
ReadsRowAt now key r K f d (Err e) = Only e (RowRefusedAt now key r K d)

-- the keys but this one, where it comes first
abbrev pub keys_but : List ℕ → Rows → List (List ℕ)
keys_but k no_rows = []
keys_but k (row l r K rows) = cond (bytes_eq k l) (keys rows) (l ∷ keys_but k rows)

-- with this at the key k, a tree whose members of the keys ks show c shows x
unfoldable pub IsShownWith : List ℕ → Option Data → List (List ℕ) → Kind → Cell → Cell → Type 0
IsShownWith k o ks K c x = (now : Cell) (d : Data) → get k d ≡ o → Shows K now (at_keys ks d) c → Shows K now d x

-- ---- at every moment

unfoldable pub Shown : Kind → Data → Cell → Type 0
Shown K d c = (now : Cell) → Shows K now d c

unfoldable pub Refused : Kind → Data → Type 0
Refused K d = (now c : Cell) → Shows K now d c → ⊥

unfoldable pub RowShown : List ℕ → Rule → Kind → Data → Cell → Type 0
RowShown key r K d c = (now : Cell) → RowShows r (Shows K now) now (get key d) c

unfoldable pub RowRefused : List ℕ → Rule → Kind → Data → Type 0
RowRefused key r K d = (now c : Cell) → RowShows r (Shows K now) now (get key d) c → ⊥

abbrev pub Reads : {A : Type 0} → Kind → (A → Cell) → Data → Result A TreeError → Type 0
Reads K f d (Ok v) = Shown K d (f v)
Reads K f d (Err e) = Only e (Refused K d)

abbrev pub ReadsRow : {A : Type 0} → List ℕ → Rule → Kind → (A → Cell) → Data → Result A TreeError → Type 0
ReadsRow key r K f d (Ok v) = RowShown key r K d (f v)
ReadsRow key r K f d (Err e) = Only e (RowRefused key r K d)

-- ---- lines of text

-- the line has a tree of which P holds
unfoldable pub LineShows : (Data → Type 0) → List ℕ → Type 0
LineShows P line = (d : Data) × (tree_of line ≡ Some d) × P d

-- of the tree of the line, if it has one, P holds
unfoldable pub LineRefused : (Data → Type 0) → List ℕ → Type 0
LineRefused P line = (d : Data) → tree_of line ≡ Some d → P d

-- at every moment the line shows the value
unfoldable pub TextShown : Kind → List ℕ → Cell → Type 0
TextShown K line c = (now : Cell) → TextShows K now line c

-- at no moment the line shows a value
unfoldable pub TextRefused : Kind → List ℕ → Type 0
TextRefused K line = (now c : Cell) → TextShows K now line c → ⊥

abbrev pub ReadsText : {A : Type 0} → Kind → (A → Cell) → List ℕ → Result A TreeError → Type 0
ReadsText K f line (Ok v) = TextShown K line (f v)
ReadsText K f line (Err e) = Only e (TextRefused K line)

-- ---- lines of text, at a moment

unfoldable pub TextShownAt : Cell → Kind → List ℕ → Cell → Type 0
TextShownAt now K line c = TextShows K now line c

unfoldable pub TextRefusedAt : Cell → Kind → List ℕ → Type 0
TextRefusedAt now K line = (c : Cell) → TextShows K now line c → ⊥

abbrev pub ReadsTextAt : {A : Type 0} → Cell → Kind → (A → Cell) → List ℕ → Result A TreeError → Type 0
ReadsTextAt now K f line (Ok v) = TextShownAt now K line (f v)
ReadsTextAt now K f line (Err e) = Only e (TextRefusedAt now K line)
