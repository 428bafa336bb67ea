-- Values made anew.
use Rattle.std.proofs.Common.{◌≡◌, List, [], ◌∷◌, String, Global, string_bytes, refl, sym, ap, ◌∙◌, true, false}
use Rattle.std.specs.Prelude.{is_some}
use Rattle.serde_json.specs.Data.{Data, null, boolean, number, string, array, object}
use Rattle.serde_json.specs.Find.{as_null}
use Rattle.sentry_tables.specs.Written.{is_null}
use Rattle.sentry_tables.specs.Cell.{Cell, Cells, no_cells, cell, Entries, no_entries, entry, sequence, mapping, present, absent}
use Rattle.sentry_tables.specs.Kind.{Kind, list, map, may, may_strict}
use Rattle.sentry_tables.specs.Norm.{norm, each_cell, each_entry, is_null_of}
use Rattle.sentry_tables.specs.Cells.{cells, entries, list_cell, map_cell}
use Rattle.sentry_tables.specs.Made.{made, row_made, is_normal}
use Rattle.sentry_tables.specs.declared.way.Way.{Way}
use Rattle.sentry_tables.specs.declared.way.Way.TheVariants.{Same, Normal}

-- a value that is its own normal form
pub unchanged : (way : Way) (K : Kind) (c d : Cell) → d ≡ c → norm K c ≡ c → d ≡ made way K c
unfolding made
unchanged Same K c d is own = is
unchanged (Normal alloc) K c d is own = is ∙ sym own

same_cells_each : (cs : Cells) → each_cell (λ c. c) cs ≡ cs
same_cells_each no_cells = refl
same_cells_each (cell c cs) = ap (cell c) (same_cells_each cs)

same_entries_each : (es : Entries) → each_entry (λ c. c) es ≡ es
same_entries_each no_entries = refl
same_entries_each (entry k c es) = ap (entry k c) (same_entries_each es)

each_of : {A : Type 0} (h : Cell → Cell) (f : A → Cell) (xs : List A) → cells (λ x. h (f x)) xs ≡ each_cell h (cells f xs)
each_of h f [] = refl
each_of h f (x ∷ xs) = ap (cell (h (f x))) (each_of h f xs)

each_entry_of : {A : Type 0} (h : Cell → Cell) (f : A → Cell) (es : List (String Global × A)) → entries (λ x. h (f x)) es ≡ each_entry h (entries f es)
each_entry_of h f [] = refl
each_entry_of h f (e ∷ es) = ap (entry (string_bytes e.0) (h (f e.1))) (each_entry_of h f es)

cells_made : (way : Way) (K : Kind) (cs ds : Cells) → ds ≡ each_cell (made way K) cs → sequence ds ≡ made way (list K) (sequence cs)
unfolding made
cells_made Same K cs ds h = ap sequence (h ∙ same_cells_each cs)
cells_made (Normal alloc) K cs ds h = ap sequence h

entries_made : (way : Way) (K : Kind) (es ds : Entries) → ds ≡ each_entry (made way K) es → mapping ds ≡ made way (map K) (mapping es)
unfolding made
entries_made Same K es ds h = ap mapping (h ∙ same_entries_each es)
entries_made (Normal alloc) K es ds h = ap mapping h

pub list_made : {A : Type 0} (way : Way) (K : Kind) (f : A → Cell) (xs ys : List A) → cells f ys ≡ cells (λ x. made way K (f x)) xs → list_cell f ys ≡ made way (list K) (list_cell f xs)
list_made way K f xs ys h = cells_made way K (cells f xs) (cells f ys) (h ∙ each_of (made way K) f xs)

pub map_made : {A : Type 0} (way : Way) (K : Kind) (f : A → Cell) (es ds : List (String Global × A)) → entries f ds ≡ entries (λ x. made way K (f x)) es → map_cell f ds ≡ made way (map K) (map_cell f es)
map_made way K f es ds h = entries_made way K (entries f es) (entries f ds) (h ∙ each_entry_of (made way K) f es)

-- ---- rows that may be absent

pub null_made : (way : Way) (K : Kind) (c : Cell) → is_normal way ≡ true → is_null_of K c ≡ true → absent ≡ row_made way may K (present c)
unfolding row_made
null_made Same K c is e = absurd cc
null_made (Normal alloc) K c is e = rw e refl

pub there_made : (way : Way) (K : Kind) (c d : Cell) → (is_normal way ≡ true → is_null_of K c ≡ false) → d ≡ made way K c → present d ≡ row_made way may K (present c)
unfolding row_made made
there_made Same K c d e is = ap present is
there_made (Normal alloc) K c d e is = rw (e refl) (ap present is)

pub absent_made : (way : Way) (K : Kind) → absent ≡ row_made way may K absent
unfolding row_made
absent_made Same K = refl
absent_made (Normal alloc) K = refl

pub strict_made : (way : Way) (K : Kind) (c d : Cell) → d ≡ made way K c → present d ≡ row_made way may_strict K (present c)
unfolding row_made made
strict_made Same K c d is = ap present is
strict_made (Normal alloc) K c d is = ap present is

pub strict_absent_made : (way : Way) (K : Kind) → absent ≡ row_made way may_strict K absent
unfolding row_made
strict_absent_made Same K = refl
strict_absent_made (Normal alloc) K = refl

-- ---- trees

pub tree_null : (d : Data) → is_some (as_null d) ≡ is_null d
tree_null null = refl
tree_null (boolean b) = refl
tree_null (number n) = refl
tree_null (string s) = refl
tree_null (array ds) = refl
tree_null (object ms) = refl

-- ---- by each way

pub made_same : (way : Way) (K : Kind) (c d : Cell) → way ≡ Same → d ≡ c → d ≡ made way K c
unfolding made
made_same Same K c d e is = is
made_same (Normal alloc) K c d e is = absurd cc

pub made_normal : {alloc : Global} (way : Way) (K : Kind) (c d : Cell) → way ≡ Normal alloc → d ≡ norm K c → d ≡ made way K c
unfolding made
made_normal Same K c d e is = absurd cc
made_normal (Normal alloc) K c d e is = is
