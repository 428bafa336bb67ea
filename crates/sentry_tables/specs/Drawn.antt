-- Trees in which nothing is drawn: at every depth each row that draws has its key present.
use Rattle.std.specs.Prelude.{◌≡◌, ℕ, List, Option, Some, None, ⊤}
use Rattle.serde_json.specs.Data.{Data, Items, no_items, item, Members, no_members, member}
use Rattle.serde_json.specs.Find.{get, as_array, as_object}
use Rattle.sentry_json.specs.Line.{tree_of}
use Rattle.sentry_tables.specs.Kind.{Rule, must, may, may_null, may_strict, default, always, draw, at_once, Kind, scalar, list, map, values, table, tagged, tagged_map, Rows, no_rows, row, Cases, no_cases, case, words}
use Rattle.sentry_tables.specs.Shows.{values_in, unless_null, word_at, tag_word}

-- ---- one level, over what holds of what is in it

-- of what is given, if anything is
abbrev pub IfGiven : (Data → Type 0) → Option Data → Type 0
IfGiven Q None = ⊤
IfGiven Q (Some d) = Q d

-- something is given, and it holds of that
abbrev pub IsGiven : (Data → Type 0) → Option Data → Type 0
IsGiven Q None = ⊥
IsGiven Q (Some d) = Q d

-- of each item
abbrev pub EachItem : (Data → Type 0) → Items → Type 0
EachItem Q no_items = ⊤
EachItem Q (item d ds) = Q d × EachItem Q ds

-- of each member
abbrev pub EachMember : (List ℕ → Data → Type 0) → Members → Type 0
EachMember Q no_members = ⊤
EachMember Q (member k d ms) = Q k d × EachMember Q ms

abbrev pub InArray : (Data → Type 0) → Option Items → Type 0
InArray Q None = ⊤
InArray Q (Some ds) = EachItem Q ds

abbrev pub InObject : (List ℕ → Data → Type 0) → Option Members → Type 0
InObject Q None = ⊤
InObject Q (Some ms) = EachMember Q ms

-- A row that draws asks that its key is present; where null counts as absent, nothing is in it.
abbrev pub RowHolds : Rule → (Data → Type 0) → Option Data → Type 0
RowHolds must Q found = IfGiven Q found
RowHolds may Q found = IfGiven Q (unless_null found)
RowHolds may_null Q found = IfGiven Q (unless_null found)
RowHolds may_strict Q found = IfGiven Q found
RowHolds (default D) Q found = IfGiven Q found
RowHolds (always D) Q found = IfGiven Q found
RowHolds (draw Drawn) Q found = IsGiven Q found
RowHolds at_once Q found = IfGiven Q found

-- ---- trees: reading the tree d as a value of the kind draws nothing

abbrev mutual
  pub NothingDrawn : Kind → Data → Type 0
  NothingDrawn (scalar s) d = ⊤
  NothingDrawn (list K) d = InArray (NothingDrawn K) (as_array d)
  NothingDrawn (map K) d = InObject (λ k. NothingDrawn K) (as_object d)
  NothingDrawn (values K) d = InArray (NothingDrawn K) (values_in d)
  NothingDrawn (table rows o) d = RowsDrawNothing rows d
  NothingDrawn (tagged cases) d = CasesDrawNothing cases (tag_word None d) d
  NothingDrawn (tagged_map cases fallback) d = InObject (λ k e. CasesDrawNothing cases (tag_word (Some (word_at k (words cases) fallback)) e) e) (as_object d)

  pub RowsDrawNothing : Rows → Data → Type 0
  RowsDrawNothing no_rows d = ⊤
  RowsDrawNothing (row k r K rows) d = RowHolds r (NothingDrawn K) (get k d) × RowsDrawNothing rows d

  -- the case of the tree's word
  pub CasesDrawNothing : Cases → Option (List ℕ) → Data → Type 0
  CasesDrawNothing no_cases word d = ⊤
  CasesDrawNothing (case w rows o cases) word d = (word ≡ Some w → RowsDrawNothing rows d) × CasesDrawNothing cases word d

-- ---- lines

-- the same of the tree that a line is read as, if it is read as one
abbrev pub NothingDrawnInText : Kind → List ℕ → Type 0
NothingDrawnInText K line = (d : Data) → tree_of line ≡ Some d → NothingDrawn K d

-- ---- kinds that never draw

abbrev pub IsNoDraw : Rule → Type 0
IsNoDraw must = ⊤
IsNoDraw may = ⊤
IsNoDraw may_null = ⊤
IsNoDraw may_strict = ⊤
IsNoDraw (default D) = ⊤
IsNoDraw (always D) = ⊤
IsNoDraw (draw Drawn) = ⊥
IsNoDraw at_once = ⊤

-- no row draws
abbrev mutual
  pub NeverDraws : Kind → Type 0
  NeverDraws (scalar s) = ⊤
  NeverDraws (list K) = NeverDraws K
  NeverDraws (map K) = NeverDraws K
  NeverDraws (values K) = NeverDraws K
  NeverDraws (table rows o) = RowsNeverDraw rows
  NeverDraws (tagged cases) = CasesNeverDraw cases
  NeverDraws (tagged_map cases fallback) = CasesNeverDraw cases

  pub RowsNeverDraw : Rows → Type 0
  RowsNeverDraw no_rows = ⊤
  RowsNeverDraw (row k r K rows) = IsNoDraw r × NeverDraws K × RowsNeverDraw rows

  pub CasesNeverDraw : Cases → Type 0
  CasesNeverDraw no_cases = ⊤
  CasesNeverDraw (case w rows o cases) = RowsNeverDraw rows × CasesNeverDraw cases
