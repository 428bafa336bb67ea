-- Members: what is put, looked up, and left out. And the test of cells.
use Rattle.std.proofs.Common.{◌≡◌, ℕ, pos, negsuc, List, [], ◌∷◌, ◌++◌, Bool, true, false, cond, ◌||◌, Option, Some, None, Ordering, Less, Equal, Greater, nat_cmp, bytes_eq, is_eq, refl, sym, ap, ap₂, ◌∙◌, true≢false}
use Rattle.std.proofs.lemmas.Bool.{and_parts, or_left, or_right, eqb-true, false≢true}
use Rattle.std.proofs.lemmas.Slice.Eq.{bytes_eq-Decides}
use Rattle.std.proofs.lemmas.Map.Text.{is_eq-slice_cmp}
use Rattle.std.specs.Ordering.{match_ordering}
use Rattle.std.specs.Cmp.Lexicographic.{slice_cmp}
use Rattle.serde_json.specs.Data.{Data, Members, no_members, member}
use Rattle.serde_json.specs.Find.{get_member}
use Rattle.serde_json.proofs.Views.{get_member-put, get_member-put_other}
use Rattle.serde_json.specs.Written.{members_have_float}
use Rattle.sentry_json.specs.Keys.{is_among, beside}
use Rattle.sentry_json.proofs.Beside.{beside_named}
use Rattle.sentry_tables.specs.Cell.{Cell, absent, present, text, octets, truth, whole, moment, sequence, mapping, fields, choice, Cells, no_cells, cell, Entries, no_entries, entry, same_cell, same_cells, same_entries}
use Rattle.sentry_tables.specs.Kind.{Other, ignored, kept, others}
use Rattle.sentry_tables.specs.Written.{put_given}
use Rattle.sentry_tables.specs.Meets.{IsClear, StandsApart, IsKept}

-- ---- cells that pass the test are one

same_bytes : (s t : List ℕ) → bytes_eq s t ≡ true → s ≡ t
same_bytes s t e = (bytes_eq-Decides s t).0 e

pub same_itself : (s : List ℕ) → bytes_eq s s ≡ true
same_itself s = (bytes_eq-Decides s s).1 refl

mutual
  pub same_cell_is : (a b : Cell) → same_cell a b ≡ true → a ≡ b
  same_cell_is absent absent e = refl
  same_cell_is (present a) (present b) e = ap present (same_cell_is a b e)
  same_cell_is (text s) (text t) e = ap text (same_bytes s t e)
  same_cell_is (octets s) (octets t) e = ap octets (same_bytes s t e)
  same_cell_is (truth true) (truth true) e = refl
  same_cell_is (truth false) (truth false) e = refl
  same_cell_is (whole (pos m)) (whole (pos n)) e = ap (λ k. whole (pos k)) (eqb-true m n e)
  same_cell_is (whole (pos m)) (whole (negsuc n)) e = absurd (false≢true e)
  same_cell_is (whole (negsuc m)) (whole (pos n)) e = absurd (false≢true e)
  same_cell_is (whole (negsuc m)) (whole (negsuc n)) e = ap (λ k. whole (negsuc k)) (eqb-true m n e)
  same_cell_is (moment s n) (moment t m) e = let p = and_parts _ _ e in ap₂ moment (eqb-true s t p.0) (eqb-true n m p.1)
  same_cell_is (sequence xs) (sequence ys) e = ap sequence (same_cells_are xs ys e)
  same_cell_is (mapping xs) (mapping ys) e = ap mapping (same_entries_are xs ys e)
  same_cell_is (fields xs no_members) (fields ys no_members) e = ap (λ cs. fields cs no_members) (same_cells_are xs ys e)
  same_cell_is (choice m a) (choice n b) e = let p = and_parts _ _ e in ap₂ choice (eqb-true m n p.0) (same_cell_is a b p.1)
  same_cell_is _ _ e = absurd (false≢true e)

  pub same_cells_are : (xs ys : Cells) → same_cells xs ys ≡ true → xs ≡ ys
  same_cells_are no_cells no_cells e = refl
  same_cells_are (cell a xs) (cell b ys) e = let p = and_parts _ _ e in ap₂ cell (same_cell_is a b p.0) (same_cells_are xs ys p.1)
  same_cells_are _ _ e = absurd (false≢true e)

  pub same_entries_are : (xs ys : Entries) → same_entries xs ys ≡ true → xs ≡ ys
  same_entries_are no_entries no_entries e = refl
  same_entries_are (entry k a xs) (entry l b ys) e =
      let p = and_parts _ _ e in
      let q = and_parts _ _ p.1 in
      ap (λ j. entry j a xs) (same_bytes k l p.0) ∙ ap₂ (entry l) (same_cell_is a b q.0) (same_entries_are xs ys q.1)
  same_entries_are _ _ e = absurd (false≢true e)

-- ---- keys

pub apart : (k : List ℕ) (ks : List (List ℕ)) (j : List ℕ) → is_among k ks ≡ false → is_among j ks ≡ true → j ≡ k → ⊥
apart k ks j e f same = false≢true (sym e ∙ ap (λ l. is_among l ks) (sym same) ∙ f)

pub is_among_here : (k : List ℕ) (ks : List (List ℕ)) → is_among k (k ∷ ks) ≡ true
is_among_here k ks = or_left _ _ (same_itself k)

pub is_among_later : (j k : List ℕ) (ks : List (List ℕ)) → is_among j ks ≡ true → is_among j (k ∷ ks) ≡ true
is_among_later j k ks e = or_right _ _ e

pub is_among_after : (j : List ℕ) (reserved ks : List (List ℕ)) → is_among j ks ≡ true → is_among j (reserved ++ ks) ≡ true
is_among_after j [] ks e = e
is_among_after j (r ∷ reserved) ks e = or_right _ _ (is_among_after j reserved ks e)

pub is_among_before : (j : List ℕ) (reserved ks : List (List ℕ)) → is_among j reserved ≡ true → is_among j (reserved ++ ks) ≡ true
is_among_before j [] ks e = absurd (false≢true e)
is_among_before j (r ∷ reserved) ks e = go (bytes_eq j r) (is_among_before j reserved ks) e
  where
    go : (b : Bool) → (is_among j reserved ≡ true → is_among j (reserved ++ ks) ≡ true) → (b || is_among j reserved) ≡ true → (b || is_among j (reserved ++ ks)) ≡ true
    go true f h = refl
    go false f h = f h

-- ---- what is found

skipped : (o : Ordering) (a b : Option Data) → is_eq o ≡ false → match_ordering o a b a ≡ a
skipped Less a b e = refl
skipped Equal a b e = absurd (true≢false e)
skipped Greater a b e = refl

pub get-clear : (ks : List (List ℕ)) (k : List ℕ) (ms : Members) → is_among k ks ≡ true → IsClear ks ms → get_member k ms ≡ None
get-clear ks k no_members e h = refl
get-clear ks k (member l d ms) e h =
    let other : bytes_eq k l ≡ false = go (bytes_eq k l) refl in
    skipped (slice_cmp nat_cmp k l) (get_member k ms) (Some d) (is_eq-slice_cmp k l ∙ other) ∙ get-clear ks k ms e h.1
  where
    go : (b : Bool) → bytes_eq k l ≡ b → bytes_eq k l ≡ false
    go true f = absurd (apart l ks k h.0 e (same_bytes k l f))
    go false f = f

pub get-put_given : (k : List ℕ) (o : Option Data) (ms : Members) → get_member k ms ≡ None → get_member k (put_given k o ms) ≡ o
get-put_given k None ms e = e
get-put_given k (Some d) ms e = get_member-put k d ms

pub get-put_given_other : (j k : List ℕ) (o : Option Data) (ms : Members) → (j ≡ k → ⊥) → get_member j (put_given k o ms) ≡ get_member j ms
get-put_given_other j k None ms other = refl
get-put_given_other j k (Some d) ms other = get_member-put_other j k d ms other

-- ---- what is left out

stays : (b : Bool) (k : List ℕ) (d : Data) (ms : Members) → b ≡ false → cond b ms (member k d ms) ≡ member k d ms
stays b k d ms e = rw e

pub beside-put_given : (ks : List (List ℕ)) (k : List ℕ) (o : Option Data) (ms : Members) → is_among k ks ≡ true → beside ks (put_given k o ms) ≡ beside ks ms
beside-put_given ks k None ms h = refl
beside-put_given ks k (Some d) ms h = beside_named ks k d ms h

pub beside-clear : (ks : List (List ℕ)) (ms : Members) → IsClear ks ms → beside ks ms ≡ ms
beside-clear ks no_members h = refl
beside-clear ks (member k d ms) h = stays (is_among k ks) k d _ h.0 ∙ ap (member k d) (beside-clear ks ms h.1)

clear_at : (b : Bool) (ks : List (List ℕ)) (k : List ℕ) (d : Data) (ms : Members) → is_among k ks ≡ b → IsClear ks ms → IsClear ks (cond b ms (member k d ms))
clear_at true ks k d ms e h = h
clear_at false ks k d ms e h = (e, h)

pub IsClear-beside : (ks : List (List ℕ)) (ms : Members) → IsClear ks (beside ks ms)
IsClear-beside ks no_members = tt
IsClear-beside ks (member k d ms) = clear_at _ ks k d (beside ks ms) refl (IsClear-beside ks ms)

pub StandsApart-others : (o : Other) (ks : List (List ℕ)) (ms : Members) → StandsApart o ks (others o ks ms)
StandsApart-others ignored ks ms = tt
StandsApart-others (kept reserved) ks ms = IsClear-beside (reserved ++ ks) ms

-- what proper values ask of the members beside their rows
abbrev pub MayStand : Other → List (List ℕ) → Members → Type 0
MayStand o ks ms = IsKept o ms × StandsApart o ks ms × (members_have_float ms ≡ false)

-- a key of the table is in no `other`
pub get-may_stand : (o : Other) (ks : List (List ℕ)) (k : List ℕ) (ms : Members) → is_among k ks ≡ true → MayStand o ks ms → get_member k ms ≡ None
get-may_stand ignored ks k ms e h = ap (get_member k) h.0
get-may_stand (kept reserved) ks k ms e h = get-clear (reserved ++ ks) k ms (is_among_after k reserved ks e) h.1
