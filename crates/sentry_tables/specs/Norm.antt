-- The normal form of a value, field by field: it changes scalars alone, and what no value stands
-- for.
use Rattle.std.specs.Prelude.{ℕ, zero, suc, Bool, false, cond}
use Rattle.serde_json.specs.Data.{Members, no_members}
use Rattle.sentry_tables.specs.Cell.{Cell, absent, present, sequence, mapping, fields, choice, Cells, no_cells, cell, Entries, no_entries, entry}
use Rattle.sentry_tables.specs.Kind.{Rule, must, may, may_null, may_strict, default, always, draw, at_once, Kind, scalar, list, map, values, table, tagged, tagged_map, Rows, no_rows, row, Cases, no_cases, case}

-- ---- the parts of a value; of another value none

abbrev pub cells_of : Cell → Cells
cells_of (sequence cs) = cs
cells_of (fields cs other) = cs
cells_of _ = no_cells

abbrev pub other_of : Cell → Members
other_of (fields cs other) = other
other_of _ = no_members

abbrev pub entries_of : Cell → Entries
entries_of (mapping es) = es
entries_of _ = no_entries

abbrev pub which : Cell → ℕ
which (choice n c) = n
which _ = zero

abbrev pub chosen : Cell → Cell
chosen (choice n c) = c
chosen _ = absent

-- ---- one level

abbrev pub each_cell : (Cell → Cell) → Cells → Cells
each_cell f no_cells = no_cells
each_cell f (cell c cs) = cell (f c) (each_cell f cs)

abbrev pub each_entry : (Cell → Cell) → Entries → Entries
each_entry f no_entries = no_entries
each_entry f (entry k c es) = entry k (f c) (each_entry f es)

-- ---- a row

abbrev pub optional_norm : (Cell → Cell) → Cell → Cell
optional_norm f (present c) = f c
optional_norm f _ = absent

-- where null stands for no value, so does a value that is null
abbrev pub row_norm : Rule → (Cell → Bool) → (Cell → Cell) → Cell → Cell
row_norm must null norm c = norm c
row_norm may null norm c = optional_norm (λ x. cond (null x) absent (present (norm x))) c
row_norm may_null null norm c = optional_norm (λ x. cond (null x) absent (present (norm x))) c
row_norm may_strict null norm c = optional_norm (λ x. present (norm x)) c
row_norm (default D) null norm c = norm c
row_norm (always D) null norm c = norm c
row_norm (draw Drawn) null norm c = norm c
row_norm at_once null norm c = norm c

-- whether the value is the tree null: a tree alone may be
abbrev pub is_null_of : Kind → Cell → Bool
is_null_of (scalar s) c = s.is_null c
is_null_of (list K) c = false
is_null_of (map K) c = false
is_null_of (values K) c = false
is_null_of (table rows o) c = false
is_null_of (tagged cases) c = false
is_null_of (tagged_map cases fallback) c = false

-- ---- the normal form

abbrev mutual
  pub norm : Kind → Cell → Cell
  norm (scalar s) c = s.norm c
  norm (list K) c = sequence (each_cell (norm K) (cells_of c))
  norm (map K) c = mapping (each_entry (norm K) (entries_of c))
  norm (values K) c = sequence (each_cell (norm K) (cells_of c))
  norm (table rows o) c = fields (rows_norm rows (cells_of c)) (other_of c)
  norm (tagged cases) c = choice (which c) (case_norm cases (which c) (chosen c))
  norm (tagged_map cases fallback) c = mapping (each_entry (λ x. choice (which x) (case_norm cases (which x) (chosen x))) (entries_of c))

  pub rows_norm : Rows → Cells → Cells
  rows_norm no_rows cs = no_cells
  rows_norm (row k r K rows) no_cells = no_cells
  rows_norm (row k r K rows) (cell c cs) = cell (row_norm r (is_null_of K) (norm K) c) (rows_norm rows cs)

  pub case_norm : Cases → ℕ → Cell → Cell
  case_norm no_cases n c = c
  case_norm (case w rows o cases) zero c = fields (rows_norm rows (cells_of c)) (other_of c)
  case_norm (case w rows o cases) (suc n) c = case_norm cases n c
