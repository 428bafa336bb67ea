-- Fields of Rust's types as cells.
use Rattle.std.specs.Prelude.{ℕ, List, [], ◌∷◌, String, string_bytes, Option, Some, None, pos}
use Rattle.std.specs.Cow.{cow_str_bytes}
use Rattle.std.specs.declared.alloc.Global.{Global}
use Rattle.std.specs.declared.borrow.CowStr.{CowStr}
use Rattle.serde_json.specs.View.{view}
use Rattle.serde_json.specs.declared.value.Value.{Value}
use Rattle.sentry_tables.specs.Cell.{Cell, absent, present, text, whole, any, sequence, mapping, Cells, no_cells, cell, Entries, no_entries, entry}
use Rattle.sentry_tables.specs.Basic.{pair_cell as cell_of_two}

abbrev pub text_cell : String Global → Cell
text_cell s = text (string_bytes s)

-- borrowed or owned alike
abbrev pub cow_cell : CowStr Global → Cell
cow_cell s = text (cow_str_bytes s)

abbrev pub natural_cell : ℕ → Cell
natural_cell n = whole (pos n)

abbrev pub tree_cell : Value → Cell
tree_cell v = any (view v)

abbrev pub option_cell : {A : Type 0} → (A → Cell) → Option A → Cell
option_cell f None = absent
option_cell f (Some x) = present (f x)

abbrev pub cells : {A : Type 0} → (A → Cell) → List A → Cells
cells f [] = no_cells
cells f (x ∷ xs) = cell (f x) (cells f xs)

abbrev pub entries : {A : Type 0} → (A → Cell) → List (String Global × A) → Entries
entries f [] = no_entries
entries f (e ∷ es) = entry (string_bytes e.0) (f e.1) (entries f es)

abbrev pub list_cell : {A : Type 0} → (A → Cell) → List A → Cell
list_cell f xs = sequence (cells f xs)

abbrev pub map_cell : {A : Type 0} → (A → Cell) → List (String Global × A) → Cell
map_cell f es = mapping (entries f es)

abbrev pub empty_list : Cell
empty_list = sequence no_cells

abbrev pub empty_map : Cell
empty_map = mapping no_entries

abbrev pub pair_cell : ℕ × ℕ → Cell
pair_cell p = cell_of_two p.0 p.1
