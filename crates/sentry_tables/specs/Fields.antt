-- A type's table, a line for each row: its key, rule and kind, and the value's part that it holds.
use Rattle.std.specs.Prelude.{ℕ, List, [], ◌∷◌}
use Rattle.serde_json.specs.Data.{no_members}
use Rattle.sentry_tables.specs.Cell.{Cell, fields, Cells, no_cells, cell}
use Rattle.sentry_tables.specs.Kind.{Rule, ignored, Kind, table, Rows, no_rows, row}

-- one line of a table
pub record Field (A : Type 0) : Type 1 where
  pub key : List ℕ
  pub rule : Rule
  pub kind : Kind
  pub part : A → Cell

abbrev pub field : {A : Type 0} → List ℕ → Rule → Kind → (A → Cell) → Field A
field k r K f = record { key = k; rule = r; kind = K; part = f }

abbrev pub rows_of : {A : Type 0} → List (Field A) → Rows
rows_of [] = no_rows
rows_of (f ∷ fs) = row f.key f.rule f.kind (rows_of fs)

abbrev pub cells_by : {A : Type 0} → List (Field A) → A → Cells
cells_by [] v = no_cells
cells_by (f ∷ fs) v = cell (f.part v) (cells_by fs v)

-- a table that ignores members of other keys
abbrev pub table_of : {A : Type 0} → List (Field A) → Kind
table_of fs = table (rows_of fs) ignored

-- a value by such a table
abbrev pub fields_by : {A : Type 0} → List (Field A) → A → Cell
fields_by fs v = fields (cells_by fs v) no_members
