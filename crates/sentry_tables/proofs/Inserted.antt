-- Maps that are made of pairs at once: what they hold is what the pairs give that are inserted one
-- after the other.
use Rattle.std.proofs.Common.{◌≡◌, List, [], ◌∷◌, Bool, true, false, cond, Option, Some, None, Ordering, Less, Equal, Greater, refl, sym, ap, ◌∙◌, true≢false}
use Rattle.std.specs.Prelude.{is_some, unwrap_or}
use Rattle.std.specs.Ordering.{is_eq, eq_by_cmp, match_ordering, ordering_reverse}
use Rattle.std.specs.Cmp.{IsTotalOrder, eq_by_cmp_equiv, tied_itself}
use Rattle.std.specs.List.{AllByRecursion}
use Rattle.std.specs.List.Sorted.{IsStrictlySortedBy}
use Rattle.std.specs.BTreeMap.{insert_entry, is_at}
use Rattle.std.specs.Map.{keys_of, lookup, update, update_all}
use Rattle.std.proofs.lemmas.Map.{lookup-none}
use Rattle.std.proofs.lemmas.Map.Keys.{sorted_tail, IsDistinct-from_sorted}
use Rattle.std.proofs.lemmas.Map.Entries.{lookup_head, lookup_tail, none_past_head, none_below_head}

-- the pairs, inserted one after the other among entries
abbrev pub inserted : {K X : Type 0} → (K → K → Ordering) → List (K × X) → List (K × X) → List (K × X)
inserted R es [] = es
inserted R es (x ∷ xs) = inserted R (insert_entry R es x.0 x.1) xs

all_after : {K : Type 0} {R : K → K → Ordering} (o : IsTotalOrder R) (k l : K) (ks : List K) → R k l ≡ Less → AllByRecursion (λ y. R l y ≡ Less) ks → AllByRecursion (λ y. R k y ≡ Less) ks
all_after o k l [] less h = tt
all_after o k l (y ∷ ys) less h = (o.trans k l y less h.0, all_after o k l ys less h.1)

not_None : {X : Type 0} (v : X) → Some v ≡ None → ⊥
not_None v e = true≢false (ap is_some e)

module _ {K X : Type 0} {R : K → K → Ordering} (o : IsTotalOrder R) where
  -- ---- they stay in order

  all_inserted : (P : K → Type 0) (es : List (K × X)) (k : K) (v : X) → AllByRecursion P (keys_of es) → P k → AllByRecursion P (keys_of (insert_entry R es k v))
  all_inserted P [] k v h p = (p, tt)
  all_inserted P (e ∷ es) k v h p = at (R k e.0) (all_inserted P es k v h.1 p)
    where
      at : (r : Ordering) → AllByRecursion P (keys_of (insert_entry R es k v)) → AllByRecursion P (keys_of (match_ordering r ((k, v) ∷ e ∷ es) ((e.0, v) ∷ es) (e ∷ insert_entry R es k v)))
      at Less more = (p, h)
      at Equal more = h
      at Greater more = (h.0, more)

  entry_sorted : (es : List (K × X)) (k : K) (v : X) → IsStrictlySortedBy R (keys_of es) → IsStrictlySortedBy R (keys_of (insert_entry R es k v))
  unfolding IsStrictlySortedBy
  entry_sorted [] k v h = (tt, tt)
  entry_sorted (e ∷ es) k v h = at (R k e.0) refl (entry_sorted es k v h.1)
    where
      at : (r : Ordering) → R k e.0 ≡ r → IsStrictlySortedBy R (keys_of (insert_entry R es k v)) → IsStrictlySortedBy R (keys_of (match_ordering r ((k, v) ∷ e ∷ es) ((e.0, v) ∷ es) (e ∷ insert_entry R es k v)))
      at Less is more = ((is, all_after o k e.0 (keys_of es) is h.0), h)
      at Equal is more = h
      at Greater is more = (all_inserted (λ y. R e.0 y ≡ Less) es k v h.0 (o.antisymm e.0 k ∙ ap ordering_reverse is), more)

  pub sorted_inserted : (es xs : List (K × X)) → IsStrictlySortedBy R (keys_of es) → IsStrictlySortedBy R (keys_of (inserted R es xs))
  sorted_inserted es [] h = h
  sorted_inserted es (x ∷ xs) h = sorted_inserted (insert_entry R es x.0 x.1) xs (entry_sorted es x.0 x.1 h)

  -- ---- what is found at a key

  abbrev find : List (K × X) → K → Option X
  find es q = lookup (is_at (R q)) es

  swapped : (a b : Bool) (u v : X) (u_or : Option X) → (a ≡ true → b ≡ true → ⊥) → cond b (Some u) (cond a (Some v) u_or) ≡ cond a (Some v) (cond b (Some u) u_or)
  swapped true true u v w apart = absurd (apart refl refl)
  swapped true false u v w apart = refl
  swapped false true u v w apart = refl
  swapped false false u v w apart = refl

  overwritten : (a b : Bool) (u v : X) (w : Option X) → a ≡ b → cond b (Some v) w ≡ cond a (Some v) (cond b (Some u) w)
  overwritten true true u v w same = refl
  overwritten false false u v w same = refl
  overwritten true false u v w same = absurd (true≢false same)
  overwritten false true u v w same = absurd (true≢false (sym same))

  found_entry : (es : List (K × X)) (k : K) (v : X) (q : K) → find (insert_entry R es k v) q ≡ cond (eq_by_cmp R k q) (Some v) (find es q)
  found_entry [] k v q = rw ((eq_by_cmp_equiv o).symm k q) refl
  found_entry (e ∷ es) k v q = at (R k e.0) refl (found_entry es k v q)
    where
      at : (r : Ordering) → R k e.0 ≡ r → find (insert_entry R es k v) q ≡ cond (eq_by_cmp R k q) (Some v) (find es q)
          → find (match_ordering r ((k, v) ∷ e ∷ es) ((e.0, v) ∷ es) (e ∷ insert_entry R es k v)) q ≡ cond (eq_by_cmp R k q) (Some v) (find (e ∷ es) q)
      at Less is more = rw ((eq_by_cmp_equiv o).symm k q) refl
      at Equal is more =
          let same : eq_by_cmp R k q ≡ eq_by_cmp R q e.0 = (eq_by_cmp_equiv o).congr k e.0 q (ap is_eq is) ∙ (eq_by_cmp_equiv o).symm e.0 q in
          overwritten _ _ e.1 v (find es q) same
      at Greater is more =
          ap (cond (eq_by_cmp R q e.0) (Some e.1)) more
          ∙ swapped (eq_by_cmp R k q) (eq_by_cmp R q e.0) e.1 v (find es q)
          (λ a b. true≢false (sym ((eq_by_cmp_equiv o).congr k q e.0 a ∙ b) ∙ ap is_eq is))

  pub found_inserted : (es xs : List (K × X)) (g : K → Option X) → ((q : K) → find es q ≡ g q) → (q : K) → find (inserted R es xs) q ≡ update_all (eq_by_cmp R) g xs q
  found_inserted es [] g h q = h q
  found_inserted es (x ∷ xs) g h q =
      found_inserted (insert_entry R es x.0 x.1) xs (update (eq_by_cmp R) g x.0 (Some x.1)) (λ p. found_entry es x.0 x.1 p ∙ ap (cond (eq_by_cmp R x.0 p) (Some x.1)) (h p)) q

  -- ---- entries in order in which the same is found

  at_head : (x : K × X) (xs : List (K × X)) → find (x ∷ xs) x.0 ≡ Some x.1
  at_head x xs = lookup_head (is_at (R x.0)) x xs (ap is_eq (tied_itself o x.0))

  past_head : (q : K) (x : K × X) (xs : List (K × X)) → IsStrictlySortedBy R (keys_of (x ∷ xs)) → eq_by_cmp R q x.0 ≡ true → find xs q ≡ None
  past_head q x xs s t = lookup-none (is_at (R q)) xs (none_past_head (eq_by_cmp_equiv o) q x xs (IsDistinct-from_sorted R _ s) t)

  module _ (x y : K × X) (xs ys : List (K × X)) (s : IsStrictlySortedBy R (keys_of (x ∷ xs))) (t : IsStrictlySortedBy R (keys_of (y ∷ ys))) (h : (q : K) → find (x ∷ xs) q ≡ find (y ∷ ys) q) where
    by_heads : (r : Ordering) → R x.0 y.0 ≡ r → R x.0 y.0 ≡ Equal
    by_heads Less p = absurd (not_None x.1 (sym (at_head x xs) ∙ h x.0 ∙ lookup-none _ (y ∷ ys) (none_below_head o x.0 y ys t p)))
    by_heads Equal p = p
    by_heads Greater p = absurd (not_None y.1 (sym (at_head y ys) ∙ sym (h y.0) ∙ lookup-none _ (x ∷ xs) (none_below_head o y.0 x xs s (o.antisymm y.0 x.0 ∙ ap ordering_reverse p))))

    heads : R x.0 y.0 ≡ Equal
    heads = by_heads (R x.0 y.0) refl

    values : x.1 ≡ y.1
    values = ap (λ u. unwrap_or u x.1) (sym (at_head x xs) ∙ h x.0 ∙ lookup_head (is_at (R x.0)) y ys (ap is_eq heads))

    tails_at : (q : K) (b : Bool) → eq_by_cmp R q x.0 ≡ b → eq_by_cmp R q y.0 ≡ eq_by_cmp R q x.0 → find xs q ≡ find ys q
    tails_at q true b e = past_head q x xs s b ∙ sym (past_head q y ys t (e ∙ b))
    tails_at q false b e = sym (lookup_tail (is_at (R q)) x xs b) ∙ h q ∙ lookup_tail (is_at (R q)) y ys (e ∙ b)

    tails : (q : K) → find xs q ≡ find ys q
    tails q =
        let l = eq_by_cmp_equiv o in
        tails_at q _ refl (l.symm q y.0 ∙ sym (l.congr x.0 y.0 q (ap is_eq heads)) ∙ l.symm x.0 q)

  -- what is made of keys that are equal and of the same values is the same
  pub same_found : {E : Type 0} (none : E) (more : K → X → E → E) (made : List (K × X) → E)
      → (made [] ≡ none) → ((x : K × X) (xs : List (K × X)) → made (x ∷ xs) ≡ more x.0 x.1 (made xs)) → ((k l : K) → R k l ≡ Equal → more k ≡ more l)
      → (es fs : List (K × X)) → IsStrictlySortedBy R (keys_of es) → IsStrictlySortedBy R (keys_of fs) → ((q : K) → find es q ≡ find fs q) → made es ≡ made fs
  same_found none more made nil cons alike [] [] s t h = refl
  same_found none more made nil cons alike [] (y ∷ ys) s t h = absurd (not_None y.1 (sym (h y.0 ∙ at_head y ys)))
  same_found none more made nil cons alike (x ∷ xs) [] s t h = absurd (not_None x.1 (sym (at_head x xs) ∙ h x.0))
  same_found none more made nil cons alike (x ∷ xs) (y ∷ ys) s t h =
      let rest = same_found none more made nil cons alike xs ys (sorted_tail R x.0 (keys_of xs) s) (sorted_tail R y.0 (keys_of ys) t) (tails x y xs ys s t h) in
      cons x xs ∙ rw (alike x.0 y.0 (heads x y xs ys s t h), values x y xs ys s t h, rest) refl ∙ sym (cons y ys)
