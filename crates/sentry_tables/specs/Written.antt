-- The written tree of a value, row by row.
use Rattle.std.specs.Prelude.{ℕ, zero, suc, List, [], ◌∷◌, Bool, true, false, ◌&&◌, Option, Some, None, cond}
use Rattle.std.specs.Ordering.{nat_cmp, is_lt}
use Rattle.std.specs.Cmp.Lexicographic.{slice_cmp}
use Rattle.serde_json.specs.Data.{Data, null, boolean, number, string, array, object, Items, no_items, item, Members, no_members, member, put}
use Rattle.sentry_tables.specs.Cell.{Cell, present, Cells, no_cells, cell, Entries, no_entries, entry, same_cell}
use Rattle.sentry_tables.specs.Kind.{Rule, must, may, may_null, may_strict, default, always, draw, at_once, Kind, scalar, list, map, values, table, tagged, tagged_map, Rows, no_rows, row, Cases, no_cases, case, tag}
use Rattle.sentry_tables.specs.Shows.{values_key}
use Rattle.sentry_tables.specs.Norm.{cells_of, other_of, entries_of, which, chosen, norm}

abbrev pub is_null : Data → Bool
is_null null = true
is_null (boolean b) = false
is_null (number n) = false
is_null (string s) = false
is_null (array ds) = false
is_null (object ms) = false

-- ---- one level

abbrev pub items_tree : (Cell → Data) → Cells → Items
items_tree f no_cells = no_items
items_tree f (cell c cs) = item (f c) (items_tree f cs)

abbrev pub members_tree : (Cell → Data) → Entries → Members
members_tree f no_entries = no_members
members_tree f (entry k c es) = member k (f c) (members_tree f es)

-- ---- a row

-- what is put at the key of an optional row, with this for an absent value
abbrev pub optional_tree : Option Data → (Cell → Data) → Cell → Option Data
optional_tree without f (present c) = Some (f c)
optional_tree without f _ = without

-- what a row puts at its key; a value whose normal form is the default is left out
abbrev pub row_tree : Rule → (Cell → Data) → (Cell → Cell) → Cell → Option Data
row_tree must tree norm c = Some (tree c)
row_tree may tree norm c = optional_tree None tree c
row_tree may_null tree norm c = optional_tree (Some null) tree c
row_tree may_strict tree norm c = optional_tree None tree c
row_tree (default D) tree norm c = cond (same_cell (norm c) D) None (Some (tree c))
row_tree (always D) tree norm c = Some (tree c)
row_tree (draw Drawn) tree norm c = Some (tree c)
row_tree at_once tree norm c = Some (tree c)

abbrev pub put_given : List ℕ → Option Data → Members → Members
put_given k None ms = ms
put_given k (Some d) ms = put k d ms

-- ---- the written tree

abbrev mutual
  pub tree : Kind → Cell → Data
  tree (scalar s) c = s.tree c
  tree (list K) c = array (items_tree (tree K) (cells_of c))
  tree (map K) c = object (members_tree (tree K) (entries_of c))
  tree (values K) c = object (member values_key (array (items_tree (tree K) (cells_of c))) no_members)
  tree (table rows o) c = object (rows_tree rows (cells_of c) (other_of c))
  tree (tagged cases) c = object (case_tree cases (which c) (chosen c))
  tree (tagged_map cases fallback) c = object (members_tree (λ x. object (case_tree cases (which x) (chosen x))) (entries_of c))

  -- these members, and then each row put among them
  pub rows_tree : Rows → Cells → Members → Members
  rows_tree no_rows cs ms = ms
  rows_tree (row k r K rows) no_cells ms = ms
  rows_tree (row k r K rows) (cell c cs) ms = rows_tree rows cs (put_given k (row_tree r (tree K) (norm K) c) ms)

  pub case_tree : Cases → ℕ → Cell → Members
  case_tree no_cases n c = no_members
  case_tree (case w rows o cases) zero c = rows_tree rows (cells_of c) (put tag (string w) (other_of c))
  case_tree (case w rows o cases) (suc n) c = case_tree cases n c

-- ---- the members that rows give, in the order of the rows

-- this member, where one is given, and then the others
abbrev pub given : List ℕ → Option Data → Members → Members
given k None ms = ms
given k (Some d) ms = member k d ms

abbrev pub rows_given : Rows → Cells → Members
rows_given no_rows cs = no_members
rows_given (row k r K rows) no_cells = no_members
rows_given (row k r K rows) (cell c cs) = given k (row_tree r (tree K) (norm K) c) (rows_given rows cs)

-- each member put among the others, first to last
abbrev pub put_all : Members → Members → Members
put_all no_members others = others
put_all (member k d ms) others = put_all ms (put k d others)

-- the key comes before each of these
abbrev pub is_before : List ℕ → List (List ℕ) → Bool
is_before k [] = true
is_before k (l ∷ ls) = is_lt (slice_cmp nat_cmp k l) && is_before k ls

-- each key comes before the next ones
abbrev pub in_order : List (List ℕ) → Bool
in_order [] = true
in_order (k ∷ ks) = is_before k ks && in_order ks
