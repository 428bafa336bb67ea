-- A value of a protocol type, seen as cells.
use Rattle.std.specs.Prelude.{ℕ, ℤ, pos, negsuc, List, Bool, true, false, ◌&&◌, ◌==◌, bytes_eq}
use Rattle.serde_json.specs.Data.{Data, Members, no_members}

mutual
  pub data Cell : Type 0 where
    -- an option without a value, and one with this value
    absent : Cell
    present : Cell → Cell
    text : List ℕ → Cell
    -- bytes that are no text, as those of an id
    octets : List ℕ → Cell
    truth : Bool → Cell
    -- an integer
    whole : ℤ → Cell
    -- a tree of JSON that is kept as it is
    any : Data → Cell
    -- seconds since 1970, and the nanoseconds of the last
    moment : ℕ → ℕ → Cell
    -- a list
    sequence : Cells → Cell
    -- a map, in the order of its keys
    mapping : Entries → Cell
    -- one cell for each row, in the order of the rows, and the members that no row names
    fields : Cells → Members → Cell
    -- the variant of this place in an enumeration, and what it holds
    choice : ℕ → Cell → Cell

  pub data Cells : Type 0 where
    no_cells : Cells
    cell : Cell → Cells → Cells

  pub data Entries : Type 0 where
    no_entries : Entries
    entry : List ℕ → Cell → Entries → Entries

abbrev pub same_whole : ℤ → ℤ → Bool
same_whole (pos m) (pos n) = m == n
same_whole (pos m) (negsuc n) = false
same_whole (negsuc m) (pos n) = false
same_whole (negsuc m) (negsuc n) = m == n

-- the two are the same; trees are never compared, but for an empty `other`
abbrev mutual
  pub same_cell : Cell → Cell → Bool
  same_cell absent absent = true
  same_cell (present a) (present b) = same_cell a b
  same_cell (text s) (text t) = bytes_eq s t
  same_cell (octets s) (octets t) = bytes_eq s t
  same_cell (truth true) (truth true) = true
  same_cell (truth false) (truth false) = true
  same_cell (whole m) (whole n) = same_whole m n
  same_cell (moment s n) (moment t m) = (s == t) && (n == m)
  same_cell (sequence xs) (sequence ys) = same_cells xs ys
  same_cell (mapping xs) (mapping ys) = same_entries xs ys
  same_cell (fields xs no_members) (fields ys no_members) = same_cells xs ys
  same_cell (choice m a) (choice n b) = (m == n) && same_cell a b
  same_cell _ _ = false

  pub same_cells : Cells → Cells → Bool
  same_cells no_cells no_cells = true
  same_cells (cell a xs) (cell b ys) = same_cell a b && same_cells xs ys
  same_cells _ _ = false

  pub same_entries : Entries → Entries → Bool
  same_entries no_entries no_entries = true
  same_entries (entry k a xs) (entry l b ys) = bytes_eq k l && (same_cell a b && same_entries xs ys)
  same_entries _ _ = false
