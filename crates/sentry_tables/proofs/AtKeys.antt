-- A table that ignores members of other keys shows what the members of its rows' keys show, one of
-- them apart from the others.
use Rattle.std.proofs.Common.{◌≡◌, ℕ, List, [], ◌∷◌, Bool, true, false, true≢false, ◌||◌, bytes_eq, cond, Option, Some, None, String, Global, Ordering, Less, Equal, Greater, nat_cmp, refl, sym, subst, ◌∙◌}
use Rattle.std.proofs.lemmas.Option.{none-some}
use Rattle.std.proofs.lemmas.Slice.Eq.{bytes_eq-Decides}
use Rattle.std.specs.Cmp.Lexicographic.{slice_cmp}
use Rattle.std.specs.Ordering.{match_ordering}
use Rattle.serde_json.specs.Data.{Data, null, boolean, number, string, array, object, Members, no_members, member}
use Rattle.serde_json.specs.Find.{get, get_member}
use Rattle.serde_json.specs.View.{members_view}
use Rattle.serde_json.specs.declared.value.Value.{Value}
use Rattle.sentry_json.specs.Keys.{is_among, at_keys, filtered}
use Rattle.sentry_json.proofs.Beside.{get_passes}
use Rattle.sentry_tables.specs.Cell.{Cell, fields, Cells, no_cells, cell}
use Rattle.sentry_tables.specs.Cells.{tree_cell, entries, map_cell}
use Rattle.sentry_tables.specs.Kind.{default, map, table, ignored, Rows, no_rows, row, keys}
use Rattle.sentry_tables.specs.Kinds.{any_kind}
use Rattle.sentry_tables.specs.Reading.{keys_but, IsShownWith}
use Rattle.sentry_tables.specs.Shows.{is_object, MembersShow, RowShows, Shows, RowsShow}
use Rattle.sentry_tables.proofs.Members.{is_among_here, is_among_later}
use Rattle.sentry_tables.proofs.Shown.{fields_meet}

-- ---- what stands at a key of what the members of some keys leave

get_at : (ks : List (List ℕ)) (k : List ℕ) (d : Data) → is_among k ks ≡ true → get k (at_keys ks d) ≡ get k d
get_at ks k null one = refl
get_at ks k (boolean b) one = refl
get_at ks k (number n) one = refl
get_at ks k (string s) one = refl
get_at ks k (array ds) one = refl
get_at ks k (object ms) one = get_passes (λ l. is_among l ks) k ms one

-- where nothing stands at it, nothing does there
none_passes : (passes : List ℕ → Bool) (k : List ℕ) (ms : Members) → get_member k ms ≡ None → get_member k (filtered passes ms) ≡ None
none_passes passes k no_members none = refl
none_passes passes k (member l d ms) none = at (slice_cmp nat_cmp k l) refl none (none_passes passes k ms)
  where
    by_test : (b : Bool) → match_ordering (slice_cmp nat_cmp k l) (get_member k (filtered passes ms)) (Some d) (get_member k (filtered passes ms)) ≡ None → get_member k (filtered passes ms) ≡ None
        → get_member k (cond b (member l d (filtered passes ms)) (filtered passes ms)) ≡ None
    by_test true is more = is
    by_test false is more = more

    at : (o : Ordering) → slice_cmp nat_cmp k l ≡ o → match_ordering o (get_member k ms) (Some d) (get_member k ms) ≡ None → (get_member k ms ≡ None → get_member k (filtered passes ms) ≡ None)
        → get_member k (cond (passes l) (member l d (filtered passes ms)) (filtered passes ms)) ≡ None
    at Less is none more = by_test (passes l) (rw is (more none)) (more none)
    at Equal is none more = absurd (none-some d (sym none))
    at Greater is none more = by_test (passes l) (rw is (more none)) (more none)

none_at : (ks : List (List ℕ)) (k : List ℕ) (d : Data) → get k d ≡ None → get k (at_keys ks d) ≡ None
none_at ks k null none = refl
none_at ks k (boolean b) none = refl
none_at ks k (number n) none = refl
none_at ks k (string s) none = refl
none_at ks k (array ds) none = refl
none_at ks k (object ms) none = none_passes (λ l. is_among l ks) k ms none

object_at : (ks : List (List ℕ)) (d : Data) → is_object (at_keys ks d) ≡ is_object d
object_at ks null = refl
object_at ks (boolean b) = refl
object_at ks (number n) = refl
object_at ks (string s) = refl
object_at ks (array ds) = refl
object_at ks (object ms) = refl

-- ---- the rows of such a table

-- they show the same of a tree that has the same at their keys
rows_same : (rows : Rows) (now : Cell) (a d : Data) (cs : Cells) → ((l : List ℕ) → is_among l (keys rows) ≡ true → get l a ≡ get l d) → RowsShow rows now a cs → RowsShow rows now d cs
rows_same no_rows now a d no_cells same h = h
rows_same no_rows now a d (cell c cs) same h = h
rows_same (row k r K rows) now a d no_cells same h = h
rows_same (row k r K rows) now a d (cell c cs) same h =
    (subst (λ o. RowShows r (Shows K now) now o c) (same k (is_among_here k (keys rows))) h.0, rows_same rows now a d cs (λ l one. same l (is_among_later l k (keys rows) one)) h.1)

abbrev pub Chosen : Bool → Type 0 → Type 0 → Type 0
Chosen true A B = A
Chosen false A B = B

-- the row of this key takes what stands there as the cell
abbrev pub Takes : List ℕ → Rows → Cell → Data → Cell → Type 0
Takes k no_rows now d x = ⊥
Takes k (row l r K rows) now d x = Chosen (bytes_eq k l) (RowShows r (Shows K now) now (get l d) x) (Takes k rows now d x)

-- the cells, with another in the row of this key
abbrev pub replaced : List ℕ → Cell → Rows → Cells → Cells
replaced k x no_rows cs = cs
replaced k x (row l r K rows) no_cells = no_cells
replaced k x (row l r K rows) (cell c cs) = cond (bytes_eq k l) (cell x cs) (cell c (replaced k x rows cs))

rows_with : (k : List ℕ) (x : Cell) (rows : Rows) (now : Cell) (a d : Data) (cs : Cells) → ((l : List ℕ) → is_among l (keys_but k rows) ≡ true → get l a ≡ get l d) → Takes k rows now d x → RowsShow rows now a cs
    → RowsShow rows now d (replaced k x rows cs)
rows_with k x no_rows now a d cs same takes h = absurd takes
rows_with k x (row l r K rows) now a d no_cells same takes h = h
rows_with k x (row l r K rows) now a d (cell c cs) same takes h = at (bytes_eq k l) same takes (rows_with k x rows now a d cs)
  where
    at : (b : Bool) → ((m : List ℕ) → is_among m (cond b (keys rows) (l ∷ keys_but k rows)) ≡ true → get m a ≡ get m d) → Chosen b (RowShows r (Shows K now) now (get l d) x) (Takes k rows now d x)
        → (((m : List ℕ) → is_among m (keys_but k rows) ≡ true → get m a ≡ get m d) → Takes k rows now d x → RowsShow rows now a cs → RowsShow rows now d (replaced k x rows cs))
        → RowsShow (row l r K rows) now d (cond b (cell x cs) (cell c (replaced k x rows cs)))
    at true same takes more = (takes, rows_same rows now a d cs same h.1)
    at false same takes more =
        (subst (λ o. RowShows r (Shows K now) now o c) (same l (is_among_here l (keys_but k rows))) h.0, more (λ m one. same m (is_among_later m l (keys_but k rows) one)) takes h.1)

-- each key is this one or one of the others
among_but : (k l : List ℕ) (rows : Rows) → is_among l (keys rows) ≡ true → bytes_eq k l ≡ false → is_among l (keys_but k rows) ≡ true
among_but k l no_rows one other = one
among_but k l (row m r K rows) one other = at (bytes_eq k m) refl (bytes_eq l m) refl one (among_but k l rows)
  where
    at : (b : Bool) → bytes_eq k m ≡ b → (e : Bool) → bytes_eq l m ≡ e → (e || is_among l (keys rows)) ≡ true → (is_among l (keys rows) ≡ true → bytes_eq k l ≡ false → is_among l (keys_but k rows) ≡ true)
        → is_among l (cond b (keys rows) (m ∷ keys_but k rows)) ≡ true
    at true is true same one more =
        let named : k ≡ l = (bytes_eq-Decides k m).0 is ∙ sym ((bytes_eq-Decides l m).0 same) in
        absurd (true≢false (sym ((bytes_eq-Decides k l).1 named) ∙ other))
    at true is false same one more = one
    at false is true same one more = rw same
    at false is false same one more = rw same (more one other)

same_alone : (k l : List ℕ) (rows : Rows) (d : Data) → get k d ≡ None → is_among l (keys rows) ≡ true → get l (at_keys (keys_but k rows) d) ≡ get l d
same_alone k l rows d none one = at (bytes_eq k l) refl
  where
    at : (b : Bool) → bytes_eq k l ≡ b → get l (at_keys (keys_but k rows) d) ≡ get l d
    at true is = subst (λ m. get m (at_keys (keys_but k rows) d) ≡ get m d) ((bytes_eq-Decides k l).0 is) (none_at (keys_but k rows) k d none ∙ sym none)
    at false is = get_at (keys_but k rows) l d (among_but k l rows one is)

-- ---- the table

-- nothing stands at the key
pub shown_without : (k : List ℕ) (rows : Rows) (c : Cell) → IsShownWith k None (keys_but k rows) (table rows ignored) c c
unfolding IsShownWith
shown_without k rows c now d none h =
    (sym (object_at (keys_but k rows) d) ∙ h.0, fields_meet _ _ (λ cs other x. (rows_same rows now _ d cs (λ l one. same_alone k l rows d none one) x.0, x.1)) c h.1)

-- what stands there is taken
pub shown_with : (k : List ℕ) (rows : Rows) (o : Option Data) (cs : Cells) (other : Members) (x : Cell) → ((now : Cell) (d : Data) → get k d ≡ o → Takes k rows now d x)
    → IsShownWith k o (keys_but k rows) (table rows ignored) (fields cs other) (fields (replaced k x rows cs) other)
unfolding IsShownWith
shown_with k rows o cs other x takes now d is h =
    (sym (object_at (keys_but k rows) d) ∙ h.0, (rows_with k x rows now _ d cs (λ l one. get_at (keys_but k rows) l d one) (takes now d is) h.1.0, h.1.1))

-- a map of any trees is what its members show
trees_shown : (now : Cell) (es : List (String Global × Value)) → MembersShow (λ k. Shows any_kind now) (members_view es) (entries tree_cell es)
trees_shown now [] = tt
trees_shown now (e ∷ es) = (refl, refl, trees_shown now es)

pub trees_taken : (D now : Cell) (k : List ℕ) (d : Data) (es : List (String Global × Value)) → get k d ≡ Some (object (members_view es)) → RowShows (default D) (Shows (map any_kind) now) now (get k d) (map_cell tree_cell es)
trees_taken D now k d es is = rw is (trees_shown now es)
