-- What trees show as lists and maps.
use Rattle.std.proofs.Common.{◌≡◌, ℕ, zero, suc, ◌+◌, ◌<◌, List, [], ◌∷◌, ◌++◌, length, get_or, take, Some, None, String, Global, string_bytes, string_cmp, nat_cmp, refl, sym, ap, subst, ◌∙◌, arith, cond, Ordering, Less, Equal, Greater, Bool}
use Rattle.std.proofs.lemmas.List.{take_more}
use Rattle.std.specs.Cmp.Lexicographic.{slice_cmp}
use Rattle.std.specs.Prelude.{is_some}
use Rattle.std.specs.Ordering.{is_eq, match_ordering}
use Rattle.std.specs.Map.{lookup}
use Rattle.std.specs.BTreeMap.{BTreeMap, get, insert_entry, is_at}
use Rattle.std.proofs.lemmas.Option.{same_Some}
use Rattle.std.proofs.lemmas.Map.Text.{is_eq-slice_cmp}
use Rattle.std.proofs.lemmas.Slice.Eq.{bytes_eq-Decides}
use Rattle.serde_json.specs.Data.{Data, Members, no_members, member, put}
use Rattle.serde_json.specs.Find.{get_member, as_array, as_object}
use Rattle.sentry_json.specs.Nodes.{items_data}
use Rattle.sentry_tables.specs.Cell.{Cell, sequence, mapping, Cells, no_cells, cell, Entries, no_entries, entry}
use Rattle.sentry_tables.specs.Kind.{Kind, list, map}
use Rattle.sentry_tables.specs.Shows.{Shows, ItemsShow, MembersShow, IsSequence, IsMapping}
use Rattle.sentry_tables.specs.Cells.{cells, entries, list_cell, map_cell}
use Rattle.sentry_tables.specs.Reading.{Shown, Refused, ShownAt, RefusedAt, Only}
use Rattle.sentry_tables.specs.declared.error.TreeError.{TreeError}
use Rattle.sentry_tables.specs.declared.error.TreeError.TheVariants.{Misfit, Memory}

-- ---- lists

each_more : {V : Type 0} (w : V → Data) {A : Type 0} (P : Data → Cell → Type 0) (f : A → Cell) (vs : List V) (v : V) (xs : List A) (x : A) → ItemsShow P (items_data w vs) (cells f xs) → P (w v) (f x)
    → ItemsShow P (items_data w (vs ++ v ∷ [])) (cells f (xs ++ x ∷ []))
each_more w P f [] v [] x h s = (s, tt)
each_more w P f [] v (y ∷ ys) x h s = absurd h
each_more w P f (u ∷ us) v [] x h s = absurd h
each_more w P f (u ∷ us) v (y ∷ ys) x h s = (h.0, each_more w P f us v ys x h.1 s)

pub each_more_at : {V : Type 0} (w : V → Data) {A : Type 0} (P : Data → Cell → Type 0) (f : A → Cell) (vs : List V) (i : ℕ) (v : V) (xs ys : List A) (x : A) → i < length vs → v ≡ get_or vs i v → ys ≡ xs ++ x ∷ [] → ItemsShow P (items_data w (take i vs)) (cells f xs) → P (w v) (f x)
    → ItemsShow P (items_data w (take (i + 1) vs)) (cells f ys)
each_more_at w P f vs i v xs ys x lt at made h s = rw (take_more vs i v lt, ← at, made) (each_more w P f (take i vs) v xs x h s)

each_refuses : {V : Type 0} (w : V → Data) (P : Data → Cell → Type 0) (vs : List V) (i : ℕ) (v : V) (cs : Cells) → i < length vs → ((c : Cell) → P (w (get_or vs i v)) c → ⊥) → ItemsShow P (items_data w vs) cs → ⊥
each_refuses w P [] i v cs lt refused h = absurd (omega arith)
each_refuses w P (u ∷ us) i v no_cells lt refused h = h
each_refuses w P (u ∷ us) zero v (cell c cs) lt refused h = refused c h.0
each_refuses w P (u ∷ us) (suc i) v (cell c cs) lt refused h = each_refuses w P us i v cs (omega arith) refused h.1

pub sequence_refused : (Q : Cells → Type 0) (c : Cell) → ((cs : Cells) → Q cs → ⊥) → IsSequence Q c → ⊥
sequence_refused Q (sequence cs) f h = f cs h
sequence_refused Q _ f h = h

pub mapping_refused : (Q : Entries → Type 0) (c : Cell) → ((es : Entries) → Q es → ⊥) → IsMapping Q c → ⊥
mapping_refused Q (mapping es) f h = f es h
mapping_refused Q _ f h = h

-- ---- maps

-- the map has the keys of the members
shown_key : {A : Type 0} (P : List ℕ → Data → Cell → Type 0) (f : A → Cell) (k : List ℕ) (ms : Members) (es : List (String Global × A)) → MembersShow P ms (entries f es)
    → is_some (lookup (is_at (λ l. slice_cmp nat_cmp k (string_bytes l))) es) ≡ is_some (get_member k ms)
shown_key P f k no_members [] h = refl
shown_key P f k no_members (e ∷ es) h = absurd h
shown_key P f k (member l d ms) [] h = absurd h
shown_key P f k (member l d ms) (e ∷ es) h = rw h.0 (at (slice_cmp nat_cmp k (string_bytes e.0)) (shown_key P f k ms es h.2))
  where
    at : (o : Ordering) → is_some (lookup (is_at (λ l. slice_cmp nat_cmp k (string_bytes l))) es) ≡ is_some (get_member k ms)
        → is_some (cond (is_eq o) (Some e.1) (lookup (is_at (λ l. slice_cmp nat_cmp k (string_bytes l))) es)) ≡ is_some (match_ordering o (get_member k ms) (Some d) (get_member k ms))
    at Less more = more
    at Equal more = refl
    at Greater more = more

-- the map has a key or not as the members have it or not
pub shown_name : {A : Type 0} (P : List ℕ → Data → Cell → Type 0) (f : A → Cell) (k : List ℕ) (name : String Global) (ms : Members) (m : BTreeMap (String Global) A) (b : Bool) → string_bytes name ≡ k → MembersShow P ms (entries f m.entries) → is_some (get string_cmp m name) ≡ b
    → is_some (get_member k ms) ≡ b
shown_name P f k name ms m b named h is = rw (← named) (sym (shown_key P f (string_bytes name) ms m.entries h) ∙ is)

-- they show what the map holds for as long as its entries stay
pub shown_still : {A : Type 0} (P : List ℕ → Data → Cell → Type 0) (f : A → Cell) (ms : Members) (es after : List (String Global × A)) → after ≡ es → MembersShow P ms (entries f es) → MembersShow P ms (entries f after)
shown_still P f ms es after same h = rw same h

-- a member that is put among them, and its value among those of the map
shown_put : {A : Type 0} (P : List ℕ → Data → Cell → Type 0) (f : A → Cell) (name : String Global) (d : Data) (x : A) (ms : Members) (es : List (String Global × A)) → P (string_bytes name) d (f x) → MembersShow P ms (entries f es)
    → MembersShow P (put (string_bytes name) d ms) (entries f (insert_entry string_cmp es name x))
shown_put P f name d x no_members [] s h = (refl, s, tt)
shown_put P f name d x no_members (e ∷ es) s h = absurd h
shown_put P f name d x (member l y ms) [] s h = absurd h
shown_put P f name d x (member l y ms) (e ∷ es) s h = rw h.0 (at (slice_cmp nat_cmp (string_bytes name) (string_bytes e.0)) refl (shown_put P f name d x ms es s h.2))
  where
    here : P (string_bytes e.0) y (f e.1)
    here = subst (λ k. P k y (f e.1)) h.0 h.1

    at : (o : Ordering) → slice_cmp nat_cmp (string_bytes name) (string_bytes e.0) ≡ o → MembersShow P (put (string_bytes name) d ms) (entries f (insert_entry string_cmp es name x))
        → MembersShow P (match_ordering o (member (string_bytes name) d (member (string_bytes e.0) y ms)) (member (string_bytes e.0) d ms) (member (string_bytes e.0) y (put (string_bytes name) d ms)))
        (entries f (match_ordering o ((name, x) ∷ e ∷ es) ((e.0, x) ∷ es) (e ∷ insert_entry string_cmp es name x)))
    at Less is more = (refl, s, (refl, here, h.2))
    at Equal is more = (refl, subst (λ k. P k d (f x)) ((bytes_eq-Decides (string_bytes name) (string_bytes e.0)).0 (sym (is_eq-slice_cmp (string_bytes name) (string_bytes e.0)) ∙ ap is_eq is)) s, h.2)
    at Greater is more = (refl, here, more)

-- the same of a key that the name spells, and of the entries that came of it
pub shown_put_as : {A : Type 0} (P : List ℕ → Data → Cell → Type 0) (f : A → Cell) (k : List ℕ) (name : String Global) (d : Data) (x : A) (ms : Members) (es after : List (String Global × A)) → string_bytes name ≡ k → after ≡ insert_entry string_cmp es name x → P k d (f x) → MembersShow P ms (entries f es)
    → MembersShow P (put k d ms) (entries f after)
shown_put_as P f k name d x ms es after named made s h = rw (← named, made) (shown_put P f name d x ms es (subst (λ l. P l d (f x)) (sym named) s) h)

-- where one of them shows nothing, all show nothing
pub shown_nowhere : (P : List ℕ → Data → Cell → Type 0) (k : List ℕ) (d : Data) (ms : Members) (es : Entries) → get_member k ms ≡ Some d → ((c : Cell) → P k d c → ⊥) → MembersShow P ms es → ⊥
shown_nowhere P k d no_members no_entries at none h = absurd cc
shown_nowhere P k d no_members (entry l c es) at none h = h
shown_nowhere P k d (member n e ms) no_entries at none h = h
shown_nowhere P k d (member n e ms) (entry l c es) at none h = which _ refl (shown_nowhere P k d ms es)
  where
    which : (o : Ordering) → slice_cmp nat_cmp k n ≡ o → (get_member k ms ≡ Some d → ((x : Cell) → P k d x → ⊥) → MembersShow P ms es → ⊥) → ⊥
    which Less is more = more (rw is at at) none h.2
    which Equal is more =
        let same : k ≡ n = (bytes_eq-Decides k n).0 (sym (is_eq-slice_cmp k n) ∙ ap is_eq is) in
        let here : e ≡ d = same_Some e d (rw is at at) in
        none c (subst (λ x. P k x c) here (subst (λ x. P x e c) (sym same) h.1))
    which Greater is more = more (rw is at at) none h.2

-- ---- at every moment

pub not_array : (K : Kind) (d : Data) → as_array d ≡ None → Refused (list K) d
unfolding Refused
not_array K d is = λ now c h. rw is at h

pub list_shown : {V : Type 0} (w : V → Data) {A : Type 0} (K : Kind) (f : A → Cell) (d : Data) (vs : List V) (xs : List A) → as_array d ≡ Some (items_data w vs) → ((now : Cell) → ItemsShow (Shows K now) (items_data w vs) (cells f xs)) → Shown (list K) d (list_cell f xs)
unfolding Shown
list_shown w K f d vs xs is h = λ now. rw is (h now)

pub list_fails : {V : Type 0} (w : V → Data) (K : Kind) (d : Data) (vs : List V) (i : ℕ) (v : V) (e : TreeError) → as_array d ≡ Some (items_data w vs) → i < length vs → v ≡ get_or vs i v → Only e (Refused K (w v)) → Only e (Refused (list K) d)
unfolding Refused
list_fails w K d vs i v Misfit is lt same refused = λ now c h. sequence_refused _ c (λ cs. each_refuses w (Shows K now) vs i v cs lt (rw (← same) (refused now))) (rw is at h)
list_fails w K d vs i v Memory is lt same refused = tt

not_map : (K : Kind) (d : Data) → as_object d ≡ None → Refused (map K) d
unfolding Refused
not_map K d is = λ now c h. rw is at h

pub no_map_fails : (K : Kind) (d : Data) (e : TreeError) → Only e (as_object d ≡ None) → Only e (Refused (map K) d)
no_map_fails K d Misfit is = not_map K d is
no_map_fails K d Memory is = tt

pub map_shown : {A : Type 0} (K : Kind) (f : A → Cell) (d : Data) (ms : Members) (es : List (String Global × A)) → as_object d ≡ Some ms → ((now : Cell) → MembersShow (λ k. Shows K now) ms (entries f es)) → Shown (map K) d (map_cell f es)
unfolding Shown
map_shown K f d ms es is h = λ now. rw is (h now)

pub map_fails : (K : Kind) (d : Data) (ms : Members) (key : List ℕ) (e : Data) (x : TreeError) → as_object d ≡ Some ms → get_member key ms ≡ Some e → Only x (Refused K e) → Only x (Refused (map K) d)
unfolding Refused
map_fails K d ms key e Misfit is at refused = λ now c h. mapping_refused _ c (λ es. shown_nowhere (λ k. Shows K now) key e ms es at (refused now)) (rw is at h)
map_fails K d ms key e Memory is at refused = tt

-- ---- at a moment

pub not_array_at : (now : Cell) (K : Kind) (d : Data) → as_array d ≡ None → RefusedAt now (list K) d
unfolding RefusedAt
not_array_at now K d is = λ c h. rw is at h

pub list_shown_at : {V : Type 0} (w : V → Data) (now : Cell) {A : Type 0} (K : Kind) (f : A → Cell) (d : Data) (vs : List V) (xs : List A) → as_array d ≡ Some (items_data w vs) → (ItemsShow (Shows K now) (items_data w vs) (cells f xs)) → ShownAt now (list K) d (list_cell f xs)
unfolding ShownAt
list_shown_at w now K f d vs xs is h = rw is h

pub list_fails_at : {V : Type 0} (w : V → Data) (now : Cell) (K : Kind) (d : Data) (vs : List V) (i : ℕ) (v : V) (e : TreeError) → as_array d ≡ Some (items_data w vs) → i < length vs → v ≡ get_or vs i v → Only e (RefusedAt now K (w v)) → Only e (RefusedAt now (list K) d)
unfolding RefusedAt
list_fails_at w now K d vs i v Misfit is lt same refused = λ c h. sequence_refused _ c (λ cs. each_refuses w (Shows K now) vs i v cs lt (rw (← same) refused)) (rw is at h)
list_fails_at w now K d vs i v Memory is lt same refused = tt

-- ---- what is shown, at a moment

pub shown_when : (now : Cell) (K : Kind) (d : Data) (c : Cell) → Shown K d c → Shows K now d c
unfolding Shown
shown_when now K d c h = h now

pub shown_here : (now : Cell) (K : Kind) (d : Data) (c : Cell) → ShownAt now K d c → Shows K now d c
unfolding ShownAt
shown_here now K d c h = h
