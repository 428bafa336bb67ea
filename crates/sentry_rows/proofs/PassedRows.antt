-- Rows that were written while they were read, one by one.
use Rattle.std.proofs.Common.{◌≡◌, ◌+◌, ℕ, List, [], ◌∷◌, length, Bool, true, false, Some, None, Ok, Err, Result, refl, sym, ap, subst, ◌∙◌, cond, if◌then◌else◌, Option, ◌==◌, arith, true≢false, nat_cmp, Ordering, Less, Equal, Greater}
use Rattle.std.specs.Cmp.Lexicographic.{slice_cmp}
use Rattle.std.specs.Ordering.{match_ordering}
use Rattle.std.specs.Cmp.{unsigned_Decides}
use Rattle.std.specs.Prelude.{is_some, bytes_eq}
use Rattle.json.specs.Token.{Token}
use Rattle.json.specs.Written.{Written, Writes}
use Rattle.serde_json.specs.Data.{Data, null, boolean, number, string, array, object, Items, no_items, item, Members, no_members, member, put}
use Rattle.serde_json.specs.Find.{get, get_member, as_null, as_array, as_object, as_str}
use Rattle.sentry_json.specs.Nodes.{items_data, named_after, named_by}
use Rattle.sentry_json.specs.declared.object.Named.{Named}
use Rattle.sentry_tables.specs.Cell.{Cell, absent, present, text, sequence, mapping, same_cell, Cells, no_cells, cell, Entries, no_entries, entry}
use Rattle.sentry_tables.specs.Cells.{list_cell, empty_list, empty_map}
use Rattle.sentry_tables.specs.Kind.{Rule, must, may, may_null, may_strict, default, always, draw, at_once, Kind, list, map, values}
use Rattle.sentry_tables.specs.Kinds.{text_kind}
use Rattle.sentry_tables.specs.Norm.{norm}
use Rattle.sentry_tables.specs.Shows.{Shows, ItemsShow, values_in, values_key}
use Rattle.sentry_tables.specs.Passed.{Passed, Passes, ItemsPassed, ItemsRefused, ItemsPassedAt, ItemsRefusedAt, MembersPassed, MembersRefused, PassesMembers}
use Rattle.sentry_tables.specs.Reading.{Only, Shown, Refused, RowShown, RowRefused, RowShownAt, RowRefusedAt}
use Rattle.sentry_tables.specs.Written.{tree, row_tree, given, items_tree, members_tree}
use Rattle.sentry_tables.specs.Writes.{written, WritesTree, WritesMembers}
use Rattle.sentry_tables.specs.Continued.{no_members_wrote}
use Rattle.sentry_tables.specs.declared.error.TreeError.{TreeError}
use Rattle.sentry_tables.specs.declared.error.TreeError.TheVariants.{Misfit, Memory}
use Rattle.sentry_tables.proofs.ListsShown.{sequence_refused, mapping_refused}
use Rattle.sentry_tables.proofs.Members.{same_itself}
use Rattle.sentry_tables.proofs.ScalarsShown.{text_shown, text_refused}
use Rattle.sentry_tables.proofs.Tokens.{no_items_wrote, members_wrote, array_wrote, object_wrote, null_wrote, string_wrote}
use Rattle.sentry_writing.specs.Given.{row_given}
use Rattle.sentry_rows.specs.Passed.{MemberPassed, PassesMember, ListPassed, PassesList, ListPassedAt, PassesListAt, Gives, RowPassed, PassesRow, RowPassedAt, PassesRowAt}
use Rattle.sentry_rows.proofs.RowLemmas.{is_null, not_null, may_absent, may_is_null, may_shown, may_fails, may_strict_absent, may_strict_shown, may_strict_fails, default_absent, default_absent_at, must_missing_at}

-- ---- one member

pub member_wrote : {E : Type 0} (key : List ℕ) (d : Data) (a b c : Written) → Writes {E = E} (Ok tt) a b (Token.key key) → WritesTree d b c → WritesMembers (member key d no_members) a c
member_wrote key d a b c keyed wrote = members_wrote key key d no_members a b c c refl keyed wrote (no_members_wrote c)

pub member_passed : {E : Type 0} (K : Kind) (key : List ℕ) (d : Data) (a b c : Written) → Writes {E = E} (Ok tt) a b (Token.key key) → Passed K d b c → MemberPassed K key d a c
unfolding MemberPassed Passed
member_passed K key d a b c keyed x = (x.0, x.1, members_wrote key key (written K x.0) no_members a b c c refl keyed x.2 (no_members_wrote c))

pub null_given : {E F : Type 0} (key : List ℕ) (a b c : Written) → Writes {E = E} (Ok tt) a b (Token.key key) → Writes {E = F} (Ok tt) b c Token.null → WritesMembers (member key null no_members) a c
null_given {E} {F} key a b c keyed wrote = members_wrote key key null no_members a b c c refl keyed (null_wrote {E = F} (Ok tt) b c wrote) (no_members_wrote c)

pub list_at_key : {E F G : Type 0} (K : Kind) (key : List ℕ) (ds : Items) (a b c d e : Written) → Writes {E = E} (Ok tt) a b (Token.key key) → Writes {E = F} (Ok tt) b c Token.begin_array → ItemsPassed K ds c d → Writes {E = G} (Ok tt) d e Token.end_array → ListPassed K key ds a e
unfolding ListPassed ItemsPassed written
list_at_key K key ds a b c d e keyed begun x ended = (x.0, x.1, members_wrote key key (array (items_tree (written K) x.0)) no_members a b e e refl keyed (array_wrote (items_tree (written K) x.0) (Ok tt) b c d e begun x.2 ended) (no_members_wrote e))

-- ---- required

pub must_passed : (key : List ℕ) (K : Kind) (d e : Data) (r : Result (Unit {0}) TreeError) (old new : Written) → get key d ≡ Some e → PassesMember K key e r old new → PassesRow key must K d r old new
unfolding MemberPassed RowPassed RowShown Shown RowRefused Refused row_given
must_passed key K d e (Ok u) old new is x = (x.0, λ now. rw is (x.1 now), x.2)
must_passed key K d e (Err Misfit) old new is refused = λ now c s. refused now c (rw is at s)
must_passed key K d e (Err Memory) old new is refused = tt

-- ---- optional

pub may_left : (key : List ℕ) (K : Kind) (d : Data) (a : Written) → get key d ≡ None → RowPassed key may K d a a
unfolding RowPassed row_given
may_left key K d a is = (absent, may_absent key K d is, no_members_wrote a)

pub may_null_left : (key : List ℕ) (K : Kind) (d e : Data) (a : Written) → get key d ≡ Some e → is_some (as_null e) ≡ true → RowPassed key may K d a a
unfolding RowPassed row_given
may_null_left key K d e a is empty = (absent, may_is_null key K d e is empty, no_members_wrote a)

pub may_passed : (key : List ℕ) (K : Kind) (d e : Data) (r : Result (Unit {0}) TreeError) (old new : Written) → get key d ≡ Some e → is_some (as_null e) ≡ false → PassesMember K key e r old new → PassesRow key may K d r old new
unfolding MemberPassed RowPassed row_given
may_passed key K d e (Ok u) old new is some x = (present x.0, may_shown key K d e x.0 is some x.1, x.2)
may_passed key K d e (Err x) old new is some refused = may_fails key K d e x is some refused

pub or_null_absent : {E F : Type 0} (key : List ℕ) (K : Kind) (d : Data) (a b c : Written) → get key d ≡ None → Writes {E = E} (Ok tt) a b (Token.key key) → Writes {E = F} (Ok tt) b c Token.null → RowPassed key may_null K d a c
unfolding RowPassed row_given RowShown
or_null_absent {E} {F} key K d a b c is keyed wrote = (absent, may_absent key K d is, null_given {E = E} {F = F} key a b c keyed wrote)

pub or_null_null : {E F : Type 0} (key : List ℕ) (K : Kind) (d e : Data) (a b c : Written) → get key d ≡ Some e → is_some (as_null e) ≡ true → Writes {E = E} (Ok tt) a b (Token.key key) → Writes {E = F} (Ok tt) b c Token.null → RowPassed key may_null K d a c
unfolding RowPassed row_given RowShown
or_null_null {E} {F} key K d e a b c is empty keyed wrote = (absent, may_is_null key K d e is empty, null_given {E = E} {F = F} key a b c keyed wrote)

pub or_null_passed : (key : List ℕ) (K : Kind) (d e : Data) (r : Result (Unit {0}) TreeError) (old new : Written) → get key d ≡ Some e → is_some (as_null e) ≡ false → PassesMember K key e r old new → PassesRow key may_null K d r old new
unfolding MemberPassed RowPassed row_given RowShown RowRefused
or_null_passed key K d e (Ok u) old new is some x = (present x.0, may_shown key K d e x.0 is some x.1, x.2)
or_null_passed key K d e (Err x) old new is some refused = may_fails key K d e x is some refused

pub strict_left : (key : List ℕ) (K : Kind) (d : Data) (a : Written) → get key d ≡ None → RowPassed key may_strict K d a a
unfolding RowPassed row_given
strict_left key K d a is = (absent, may_strict_absent key K d is, no_members_wrote a)

pub strict_passed : (key : List ℕ) (K : Kind) (d e : Data) (r : Result (Unit {0}) TreeError) (old new : Written) → get key d ≡ Some e → PassesMember K key e r old new → PassesRow key may_strict K d r old new
unfolding MemberPassed RowPassed row_given
strict_passed key K d e (Ok u) old new is x = (present x.0, may_strict_shown key K d e x.0 is x.1, x.2)
strict_passed key K d e (Err x) old new is refused = may_strict_fails key K d e x is refused

-- ---- always written

pub always_absent : (key : List ℕ) (K : Kind) (D : Cell) (d : Data) (old new : Written) → get key d ≡ None → WritesMembers (member key (written K D) no_members) old new → RowPassed key (always D) K d old new
unfolding RowPassed row_given RowShown
always_absent key K D d old new is wrote = (D, (λ now. rw is refl), wrote)

pub always_passed : (key : List ℕ) (K : Kind) (D : Cell) (d e : Data) (r : Result (Unit {0}) TreeError) (old new : Written) → get key d ≡ Some e → PassesMember K key e r old new → PassesRow key (always D) K d r old new
unfolding MemberPassed RowPassed RowShown Shown RowRefused Refused row_given
always_passed key K D d e (Ok u) old new is x = (x.0, λ now. rw is (x.1 now), x.2)
always_passed key K D d e (Err Misfit) old new is refused = λ now c s. refused now c (rw is at s)
always_passed key K D d e (Err Memory) old new is refused = tt

pub no_list_written : {E F G : Type 0} (key : List ℕ) (K : Kind) (d : Data) (a b c e : Written) → get key d ≡ None → Writes {E = E} (Ok tt) a b (Token.key key) → Writes {E = F} (Ok tt) b c Token.begin_array → Writes {E = G} (Ok tt) c e Token.end_array → RowPassed key (always empty_list) (list K) d a e
unfolding RowPassed row_given RowShown written
no_list_written {E} {F} {G} key K d a b c e is keyed begun ended =
    (empty_list, (λ now. rw is refl), members_wrote key key (array no_items) no_members a b e e refl keyed (array_wrote no_items (Ok tt) b c c e begun (no_items_wrote c) ended) (no_members_wrote e))

-- ---- left out where it is the default

pub default_left : (key : List ℕ) (K : Kind) (D : Cell) (d : Data) (a : Written) → get key d ≡ None → same_cell (norm K D) D ≡ true → RowPassed key (default D) K d a a
unfolding RowPassed row_given
default_left key K D d a is same = (D, default_absent key K d D is, rw same (no_members_wrote a))

-- a value whose normal form is the default is left out, and any other written
pub given_default : (key : List ℕ) (K : Kind) (D c : Cell) (omitted : Bool) → omitted ≡ same_cell (norm K c) D → (if omitted then no_members else member key (written K c) no_members) ≡ row_given key (default D) K c
unfolding row_given
given_default key K D c omitted is = rw is (at (same_cell (norm K c) D))
  where
    at : (b : Bool) → (if b then no_members else member key (written K c) no_members) ≡ given key (cond b None (Some (written K c))) no_members
    at true = refl
    at false = refl

pub given_required : (key : List ℕ) (K : Kind) (c : Cell) → member key (written K c) no_members ≡ row_given key must K c
unfolding row_given
given_required key K c = refl

pub given_drawn : (key : List ℕ) (K : Kind) (Drawn : Cell → Type 0) (c : Cell) → member key (written K c) no_members ≡ row_given key (draw Drawn) K c
unfolding row_given
given_drawn key K Drawn c = refl

pub given_at_once : (key : List ℕ) (K : Kind) (c : Cell) → member key (written K c) no_members ≡ row_given key at_once K c
unfolding row_given
given_at_once key K c = refl

-- of a list, what is left out is the empty one
pub given_values : {A : Type 0} (key : List ℕ) (K : Kind) (f : A → Cell) (xs : List A) (omitted : Bool) → omitted ≡ (length xs == 0) → (if omitted then no_members else member key (written (values K) (list_cell f xs)) no_members) ≡ row_given key (default empty_list) (values K) (list_cell f xs)
unfolding row_given
given_values key K f [] omitted is = rw is refl
given_values key K f (x ∷ xs) false is = refl
given_values key K f (x ∷ xs) true is = let none : length (x ∷ xs) ≡ 0 = (unsigned_Decides (length (x ∷ xs)) 0).0 (sym is) in absurd (omega (arith, none))

pub or_absent : (key : List ℕ) (K : Kind) (D : Cell) (omitted : Bool) (d : Data) (old new : Written) → get key d ≡ None → omitted ≡ same_cell (norm K D) D → WritesMembers (if omitted then no_members else member key (written K D) no_members) old new → RowPassed key (default D) K d old new
unfolding RowPassed
or_absent key K D omitted d old new is same wrote = (D, default_absent key K d D is, subst (λ ms. WritesMembers ms old new) (given_default key K D D omitted same) wrote)

pub or_passed : (key : List ℕ) (K : Kind) (D c : Cell) (omitted : Bool) (d e : Data) (old new : Written) → get key d ≡ Some e → Shown K e c → omitted ≡ same_cell (norm K c) D → WritesMembers (if omitted then no_members else member key (written K c) no_members) old new → RowPassed key (default D) K d old new
unfolding RowPassed RowShown Shown
or_passed key K D c omitted d e old new is shown same wrote = (c, λ now. rw is (shown now), subst (λ ms. WritesMembers ms old new) (given_default key K D c omitted same) wrote)

pub default_fails : (key : List ℕ) (K : Kind) (D : Cell) (d e : Data) (x : TreeError) → get key d ≡ Some e → Only x (Refused K e) → Only x (RowRefused key (default D) K d)
unfolding RowRefused Refused
default_fails key K D d e Misfit is refused = λ now c s. refused now c (rw is at s)
default_fails key K D d e Memory is refused = tt

-- ---- texts

pub text_absent : (key s : List ℕ) (d : Data) (a : Written) → get key d ≡ None → RowPassed key (default (text s)) text_kind d a a
text_absent key s d a is = default_left key text_kind (text s) d a is (same_itself s)

pub text_same : (key s t : List ℕ) (d e : Data) (a : Written) → get key d ≡ Some e → as_str e ≡ Some t → bytes_eq t s ≡ true → RowPassed key (default (text s)) text_kind d a a
unfolding RowPassed row_given RowShown Shown
text_same key s t d e a is spells same = (text t, (λ now. rw is (text_shown t e spells now)), rw same (no_members_wrote a))

pub text_other : {E F : Type 0} (key s t : List ℕ) (d e : Data) (a b c : Written) → get key d ≡ Some e → as_str e ≡ Some t → bytes_eq t s ≡ false → Writes {E = E} (Ok tt) a b (Token.key key) → Writes {E = F} (Ok tt) b c (Token.string t) → RowPassed key (default (text s)) text_kind d a c
unfolding RowPassed row_given RowShown Shown written
text_other {E} {F} key s t d e a b c is spells other keyed wrote =
    (text t, (λ now. rw is (text_shown t e spells now)), rw other (members_wrote key key (string t) no_members a b c c refl keyed (string_wrote t (Ok tt) b c wrote) (no_members_wrote c)))

pub text_fails : (key s : List ℕ) (d e : Data) → get key d ≡ Some e → as_str e ≡ None → RowRefused key (default (text s)) text_kind d
unfolding RowRefused Refused
text_fails key s d e is none = λ now c h. text_refused e none now c (rw is at h)

-- ---- lists

pub list_absent : (key : List ℕ) (K : Kind) (d : Data) (a : Written) → get key d ≡ None → RowPassed key (default empty_list) (list K) d a a
list_absent key K d a is = default_left key (list K) empty_list d a is refl

pub no_list : (key : List ℕ) (K : Kind) (d e : Data) (x : TreeError) → get key d ≡ Some e → Only x (as_array e ≡ None) → Only x (RowRefused key (default empty_list) (list K) d)
unfolding RowRefused
no_list key K d e Misfit is none = λ now c h. rw none at (rw is at h)
no_list key K d e Memory is none = tt

-- that a list shows is what its items show
module _ (W : Kind → Kind) (in_of : Data → Option Items)
    (shows : (K : Kind) (now : Cell) (d : Data) (ds : Items) (cs : Cells) → in_of d ≡ Some ds → ItemsShow (Shows K now) ds cs → Shows (W K) now d (sequence cs))
    (shown : (K : Kind) (now : Cell) (d : Data) (ds : Items) (c : Cell) → in_of d ≡ Some ds → ((cs : Cells) → ItemsShow (Shows K now) ds cs → ⊥) → Shows (W K) now d c → ⊥)
    (empty : (K : Kind) (c : Cell) (cs : Cells) → same_cell (norm (W K) (sequence (cell c cs))) empty_list ≡ false)
    (none : (K : Kind) → same_cell (norm (W K) (sequence no_cells)) empty_list ≡ true) where
  pub items_left : {N : Type 0} (w : N → Data) (key : List ℕ) (K : Kind) (d e : Data) (xs : List N) (a : Written) → get key d ≡ Some e → in_of e ≡ Some (items_data w xs) → length xs ≡ 0 → RowPassed key (default empty_list) (W K) d a a
  unfolding RowPassed row_given RowShown
  items_left w key K d e [] a is at len = (sequence no_cells, (λ now. rw is (shows K now e no_items no_cells at tt)), rw (none K) (no_members_wrote a))
  items_left w key K d e (x ∷ xs) a is at len = absurd (omega arith)

  pub items_kept : {N : Type 0} (w : N → Data) (key : List ℕ) (K : Kind) (d e : Data) (xs : List N) (old new : Written) → get key d ≡ Some e → in_of e ≡ Some (items_data w xs) → (length xs == 0) ≡ false → ((cs : Cells) × ((now : Cell) → ItemsShow (Shows K now) (items_data w xs) cs) × WritesMembers (member key (written (W K) (sequence cs)) no_members) old new)
      → RowPassed key (default empty_list) (W K) d old new
  unfolding RowPassed row_given RowShown
  items_kept w key K d e [] old new is at some x = absurd (true≢false some)
  items_kept w key K d e (y ∷ ys) old new is at some (no_cells, h, wrote) = absurd (h absent)
  items_kept w key K d e (y ∷ ys) old new is at some (cell c cs, h, wrote) = (sequence (cell c cs), (λ now. rw is (shows K now e (items_data w (y ∷ ys)) (cell c cs) at (h now))), rw (empty K c cs) wrote)

  pub items_fail : (key : List ℕ) (K : Kind) (d e : Data) (ds : Items) (x : TreeError) → get key d ≡ Some e → in_of e ≡ Some ds → Only x (ItemsRefused K ds) → Only x (RowRefused key (default empty_list) (W K) d)
  unfolding RowRefused ItemsRefused
  items_fail key K d e ds Misfit is at refused = λ now c h. shown K now e ds c at (refused now) (rw is at h)
  items_fail key K d e ds Memory is at refused = tt

list_shows : (K : Kind) (now : Cell) (d : Data) (ds : Items) (cs : Cells) → as_array d ≡ Some ds → ItemsShow (Shows K now) ds cs → Shows (list K) now d (sequence cs)
list_shows K now d ds cs is h = rw is h

list_shows_none : (K : Kind) (now : Cell) (d : Data) (ds : Items) (c : Cell) → as_array d ≡ Some ds → ((cs : Cells) → ItemsShow (Shows K now) ds cs → ⊥) → Shows (list K) now d c → ⊥
list_shows_none K now d ds c is refused h = sequence_refused _ c refused (rw is at h)

values_shows : (K : Kind) (now : Cell) (d : Data) (ds : Items) (cs : Cells) → values_in d ≡ Some ds → ItemsShow (Shows K now) ds cs → Shows (values K) now d (sequence cs)
values_shows K now d ds cs is h = rw is h

values_show_none : (K : Kind) (now : Cell) (d : Data) (ds : Items) (c : Cell) → values_in d ≡ Some ds → ((cs : Cells) → ItemsShow (Shows K now) ds cs → ⊥) → Shows (values K) now d c → ⊥
values_show_none K now d ds c is refused h = sequence_refused _ c refused (rw is at h)

pub list_left : {N : Type 0} (w : N → Data) (key : List ℕ) (K : Kind) (d e : Data) (xs : List N) (a : Written) → get key d ≡ Some e → as_array e ≡ Some (items_data w xs) → length xs ≡ 0 → RowPassed key (default empty_list) (list K) d a a
list_left w key K d e xs a is at len = items_left list as_array list_shows list_shows_none (λ K c cs. refl) (λ K. refl) w key K d e xs a is at len

pub list_row : {N : Type 0} (w : N → Data) (key : List ℕ) (K : Kind) (d e : Data) (xs : List N) (r : Result (Unit {0}) TreeError) (old new : Written) → get key d ≡ Some e → as_array e ≡ Some (items_data w xs) → (length xs == 0) ≡ false → PassesList K key (items_data w xs) r old new → PassesRow key (default empty_list) (list K) d r old new
unfolding ListPassed
list_row w key K d e xs (Ok u) old new is at some x = items_kept list as_array list_shows list_shows_none (λ K c cs. refl) (λ K. refl) w key K d e xs old new is at some x
list_row w key K d e xs (Err x) old new is at some refused = items_fail list as_array list_shows list_shows_none (λ K c cs. refl) (λ K. refl) key K d e (items_data w xs) x is at refused

-- ---- lists under the key `values`

pub values_absent : (key : List ℕ) (K : Kind) (d : Data) (a : Written) → get key d ≡ None → RowPassed key (default empty_list) (values K) d a a
values_absent key K d a is = default_left key (values K) empty_list d a is refl

pub values_refused : (key : List ℕ) (K : Kind) (d e : Data) (x : TreeError) → get key d ≡ Some e → Only x (values_in e ≡ None) → Only x (RowRefused key (default empty_list) (values K) d)
unfolding RowRefused
values_refused key K d e Misfit is none = λ now c h. rw none at (rw is at h)
values_refused key K d e Memory is none = tt

pub values_left : {N : Type 0} (w : N → Data) (key : List ℕ) (K : Kind) (d e : Data) (xs : List N) (a : Written) → get key d ≡ Some e → values_in e ≡ Some (items_data w xs) → length xs ≡ 0 → RowPassed key (default empty_list) (values K) d a a
values_left w key K d e xs a is at len = items_left values values_in values_shows values_show_none (λ K c cs. refl) (λ K. refl) w key K d e xs a is at len

pub values_row : {E F G : Type 0} {N : Type 0} (w : N → Data) (key : List ℕ) (K : Kind) (d e : Data) (xs : List N) (a b c f g : Written) → get key d ≡ Some e → values_in e ≡ Some (items_data w xs) → (length xs == 0) ≡ false → Writes {E = E} (Ok tt) a b (Token.key key) → Writes {E = F} (Ok tt) b c Token.begin_object → ListPassed K values_key (items_data w xs) c f
    → Writes {E = G} (Ok tt) f g Token.end_object → RowPassed key (default empty_list) (values K) d a g
unfolding ListPassed written
values_row {E} {F} {G} w key K d e xs a b c f g is at some keyed begun x ended =
    items_kept values values_in values_shows values_show_none (λ K c cs. refl) (λ K. refl) w key K d e xs a g is at some
    (x.0, x.1, members_wrote key key (tree (values K) (sequence x.0)) no_members a b g g refl keyed (object_wrote (member values_key (array (items_tree (tree K) x.0)) no_members) (Ok tt) b c f g begun x.2 ended) (no_members_wrote g))

pub values_fail : {N : Type 0} (w : N → Data) (key : List ℕ) (K : Kind) (d e : Data) (xs : List N) (x : TreeError) → get key d ≡ Some e → values_in e ≡ Some (items_data w xs) → Only x (ItemsRefused K (items_data w xs)) → Only x (RowRefused key (default empty_list) (values K) d)
values_fail w key K d e xs x is at refused = items_fail values values_in values_shows values_show_none (λ K c cs. refl) (λ K. refl) key K d e (items_data w xs) x is at refused

pub bare_items : (d : Data) → (o : Option Items) → is_some (as_array d) ≡ true → o ≡ as_array d → o ≡ values_in d
bare_items (array ds) o is same = same
bare_items _ o is same = absurd (true≢false (sym is))

pub no_values : (d : Data) → is_some (as_array d) ≡ false → get values_key d ≡ None → values_in d ≡ None
no_values (array ds) other is = absurd (true≢false other)
no_values (object ms) other is = rw is refl
no_values null other is = refl
no_values (boolean b) other is = refl
no_values (number n) other is = refl
no_values (string s) other is = refl

pub values_items : (d e : Data) (o : Option Items) → is_some (as_array d) ≡ false → get values_key d ≡ Some e → o ≡ as_array e → o ≡ values_in d
values_items (array ds) e o other is same = absurd (true≢false other)
values_items (object ms) e o other is same = rw is same
values_items null e o other is same = absurd cc
values_items (boolean b) e o other is same = absurd cc
values_items (number n) e o other is same = absurd cc
values_items (string s) e o other is same = absurd cc

-- ---- lists at a moment

pub list_at_key_now : {E F G : Type 0} (now : Cell) (K : Kind) (key : List ℕ) (ds : Items) (a b c d e : Written) → Writes {E = E} (Ok tt) a b (Token.key key) → Writes {E = F} (Ok tt) b c Token.begin_array → ItemsPassedAt now K ds c d → Writes {E = G} (Ok tt) d e Token.end_array → ListPassedAt now K key ds a e
unfolding ListPassedAt ItemsPassedAt written
list_at_key_now now K key ds a b c d e keyed begun x ended = (x.0, x.1, members_wrote key key (array (items_tree (written K) x.0)) no_members a b e e refl keyed (array_wrote (items_tree (written K) x.0) (Ok tt) b c d e begun x.2 ended) (no_members_wrote e))

pub list_missing_at : (now : Cell) (key : List ℕ) (K : Kind) (d : Data) → get key d ≡ None → RowRefusedAt now key must (list K) d
list_missing_at now key K d is = must_missing_at now key (list K) d is

pub no_list_at : (now : Cell) (key : List ℕ) (K : Kind) (d e : Data) (x : TreeError) → get key d ≡ Some e → Only x (as_array e ≡ None) → Only x (RowRefusedAt now key must (list K) d)
unfolding RowRefusedAt
no_list_at now key K d e Misfit is none = λ c h. rw none at (rw is at h)
no_list_at now key K d e Memory is none = tt

pub list_row_at : (now : Cell) (key : List ℕ) (K : Kind) (d e : Data) (ds : Items) (r : Result (Unit {0}) TreeError) (old new : Written) → get key d ≡ Some e → as_array e ≡ Some ds → PassesListAt now K key ds r old new → PassesRowAt now key must (list K) d r old new
unfolding ListPassedAt RowPassedAt RowShownAt RowRefusedAt ItemsRefusedAt row_given
list_row_at now key K d e ds (Ok u) old new is at x = (sequence x.0, rw is (rw at x.1), x.2)
list_row_at now key K d e ds (Err Misfit) old new is at refused = λ c h. list_shows_none K now e ds c at refused (rw is at h)
list_row_at now key K d e ds (Err Memory) old new is at refused = tt

pub values_absent_at : (now : Cell) (key : List ℕ) (K : Kind) (d : Data) (a : Written) → get key d ≡ None → RowPassedAt now key (default empty_list) (values K) d a a
unfolding RowPassedAt row_given
values_absent_at now key K d a is = (empty_list, default_absent_at now key (values K) d empty_list is, no_members_wrote a)

pub values_refused_at : (now : Cell) (key : List ℕ) (K : Kind) (d e : Data) (x : TreeError) → get key d ≡ Some e → Only x (values_in e ≡ None) → Only x (RowRefusedAt now key (default empty_list) (values K) d)
unfolding RowRefusedAt
values_refused_at now key K d e Misfit is none = λ c h. rw none at (rw is at h)
values_refused_at now key K d e Memory is none = tt

pub values_left_at : {N : Type 0} (w : N → Data) (now : Cell) (key : List ℕ) (K : Kind) (d e : Data) (xs : List N) (a : Written) → get key d ≡ Some e → values_in e ≡ Some (items_data w xs) → length xs ≡ 0 → RowPassedAt now key (default empty_list) (values K) d a a
unfolding RowPassedAt row_given RowShownAt
values_left_at w now key K d e [] a is at len = (sequence no_cells, rw is (values_shows K now e no_items no_cells at tt), no_members_wrote a)
values_left_at w now key K d e (x ∷ xs) a is at len = absurd (omega arith)

pub values_row_at : {E F G : Type 0} {N : Type 0} (w : N → Data) (now : Cell) (key : List ℕ) (K : Kind) (d e : Data) (xs : List N) (a b c f g : Written) → get key d ≡ Some e → values_in e ≡ Some (items_data w xs) → (length xs == 0) ≡ false → Writes {E = E} (Ok tt) a b (Token.key key) → Writes {E = F} (Ok tt) b c Token.begin_object → ListPassedAt now K values_key (items_data w xs) c f
    → Writes {E = G} (Ok tt) f g Token.end_object → RowPassedAt now key (default empty_list) (values K) d a g
unfolding ListPassedAt written RowPassedAt RowShownAt row_given
values_row_at w now key K d e [] a b c f g is at some keyed begun x ended = absurd (true≢false some)
values_row_at w now key K d e (y ∷ ys) a b c f g is at some keyed begun (no_cells, h, wrote) ended = absurd h
values_row_at {E} {F} {G} w now key K d e (y ∷ ys) a b c f g is at some keyed begun (cell k cs, h, wrote) ended =
    (sequence (cell k cs), rw is (values_shows K now e (items_data w (y ∷ ys)) (cell k cs) at h), members_wrote key key (tree (values K) (sequence (cell k cs))) no_members a b g g refl keyed (object_wrote (member values_key (array (items_tree (tree K) (cell k cs))) no_members) (Ok tt) b c f g begun wrote ended) (no_members_wrote g))

pub values_fail_at : {N : Type 0} (w : N → Data) (now : Cell) (key : List ℕ) (K : Kind) (d e : Data) (xs : List N) (x : TreeError) → get key d ≡ Some e → values_in e ≡ Some (items_data w xs) → Only x (ItemsRefusedAt now K (items_data w xs)) → Only x (RowRefusedAt now key (default empty_list) (values K) d)
unfolding RowRefusedAt ItemsRefusedAt
values_fail_at w now key K d e xs Misfit is at refused = λ c h. values_show_none K now e (items_data w xs) c at refused (rw is at h)
values_fail_at w now key K d e xs Memory is at refused = tt

-- ---- maps

pub map_absent : (key : List ℕ) (K : Kind) (d : Data) (a : Written) → get key d ≡ None → RowPassed key (default empty_map) (map K) d a a
map_absent key K d a is = default_left key (map K) empty_map d a is refl

pub no_map : (key : List ℕ) (K : Kind) (d e : Data) (x : TreeError) → get key d ≡ Some e → Only x (as_object e ≡ None) → Only x (RowRefused key (default empty_map) (map K) d)
unfolding RowRefused
no_map key K d e Misfit is none = λ now c h. rw none at (rw is at h)
no_map key K d e Memory is none = tt

pub map_left : {N : Type 0} (w : N → Data) (key : List ℕ) (K : Kind) (d e : Data) (ms : List (Named N)) (a : Written) → get key d ≡ Some e → as_object e ≡ Some (named_by w ms) → length ms ≡ 0 → RowPassed key (default empty_map) (map K) d a a
unfolding RowPassed row_given RowShown
map_left w key K d e [] a is at len = (mapping no_entries, (λ now. rw (is, at) tt), no_members_wrote a)
map_left w key K d e (m ∷ ms) a is at len = absurd (omega arith)

-- there is a first member
abbrev pub HasFirst : Members → Type 0
HasFirst ms = (l : List ℕ) × (f : Data) × (ns : Members) × (ms ≡ member l f ns)

put_some : (k : List ℕ) (d : Data) (ms : Members) → HasFirst (put k d ms)
put_some k d no_members = (k, d, no_members, refl)
put_some k d (member l y ms) = at (slice_cmp nat_cmp k l)
  where
    at : (o : Ordering) → HasFirst (match_ordering o (member k d (member l y ms)) (member l d ms) (member l y (put k d ms)))
    at Less = (k, d, member l y ms, refl)
    at Equal = (l, d, ms, refl)
    at Greater = (l, y, put k d ms, refl)

after_some : {N : Type 0} (w : N → Data) (before : Members) (xs : List (Named N)) → HasFirst before → HasFirst (named_after w before xs)
after_some w before [] h = h
after_some w before (x ∷ xs) h = after_some w (put x.key.now (w x.node) before) xs (put_some x.key.now (w x.node) before)

-- an object that was walked and has a member is not empty
pub named_some : {N : Type 0} (w : N → Data) (xs : List (Named N)) → (length xs == 0) ≡ false → HasFirst (named_by w xs)
named_some w [] some = absurd (true≢false some)
named_some w (x ∷ xs) some = after_some w (put x.key.now (w x.node) no_members) xs (put_some x.key.now (w x.node) no_members)

map_kept : {E F G : Type 0} (key : List ℕ) (K : Kind) (d e : Data) (l : List ℕ) (f : Data) (ms : Members) (a b c g h : Written) → get key d ≡ Some e → as_object e ≡ Some (member l f ms) → Writes {E = E} (Ok tt) a b (Token.key key) → Writes {E = F} (Ok tt) b c Token.begin_object → MembersPassed K (member l f ms) c g
    → Writes {E = G} (Ok tt) g h Token.end_object → RowPassed key (default empty_map) (map K) d a h
unfolding MembersPassed RowPassed row_given RowShown written
map_kept {E} {F} {G} key K d e l f ms a b c g h is at keyed begun (no_entries, shown, wrote) ended = absurd (shown absent)
map_kept {E} {F} {G} key K d e l f ms a b c g h is at keyed begun (entry k x es, shown, wrote) ended =
    (mapping (entry k x es), (λ now. rw (is, at) (shown now)), members_wrote key key (tree (map K) (mapping (entry k x es))) no_members a b h h refl keyed (object_wrote (members_tree (tree K) (entry k x es)) (Ok tt) b c g h begun wrote ended) (no_members_wrote h))

pub map_row : {E F G : Type 0} {N : Type 0} (w : N → Data) (key : List ℕ) (K : Kind) (d e : Data) (xs : List (Named N)) (a b c g h : Written) → get key d ≡ Some e → as_object e ≡ Some (named_by w xs) → (length xs == 0) ≡ false → Writes {E = E} (Ok tt) a b (Token.key key) → Writes {E = F} (Ok tt) b c Token.begin_object
    → MembersPassed K (named_by w xs) c g → Writes {E = G} (Ok tt) g h Token.end_object → RowPassed key (default empty_map) (map K) d a h
map_row {E} {F} {G} w key K d e xs a b c g h is at some keyed begun passed ended =
    let s = named_some w xs some in
    map_kept {E = E} {F = F} {G = G} key K d e s.0 s.1 s.2 a b c g h is (at ∙ ap Some s.3) keyed begun (subst (λ ms. MembersPassed K ms c g) s.3 passed) ended

pub map_fails_at : (key : List ℕ) (K : Kind) (d e : Data) (ms : Members) (x : TreeError) → get key d ≡ Some e → as_object e ≡ Some ms → Only x (MembersRefused K ms) → Only x (RowRefused key (default empty_map) (map K) d)
unfolding RowRefused MembersRefused
map_fails_at key K d e ms Misfit is at refused = λ now c h. mapping_refused _ c (refused now) (rw at at (rw is at h))
map_fails_at key K d e ms Memory is at refused = tt
