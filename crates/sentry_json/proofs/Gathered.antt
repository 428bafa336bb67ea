-- Nodes in lists and under keys, gathered one by one.
use Rattle.std.proofs.Common.{◌≡◌, ℕ, zero, suc, ◌+◌, ◌<◌, arith, sym, false, true, true≢false, bytes_eq, subst, ◌≤◌, ◌-◌, Some, List, [], ◌∷◌, ◌++◌, length, get_or, take, string_bytes, string_cmp, refl, ap, ◌∙◌}
use Rattle.std.proofs.lemmas.List.{take_more}
use Rattle.std.specs.List.Sorted.{IsStrictlySortedBy}
use Rattle.std.specs.Map.{keys_of}
use Rattle.serde_json.specs.Data.{Data, Items, no_items, item, Members, no_members, put}
use Rattle.serde_json.specs.Find.{get_member}
use Rattle.serde_json.specs.View.{view, items_view, members_view}
use Rattle.serde_json.specs.declared.value.Value.{Value}
use Rattle.serde_json.proofs.Views.{Entry, put_last, get_member-put, get_member-put_other}
use Rattle.std.proofs.lemmas.Slice.Eq.{bytes_eq-Decides}
use Rattle.sentry_json.proofs.Beside.{beside_named, beside_put}
use Rattle.sentry_json.specs.Sound.{IsOrdered}
use Rattle.sentry_json.proofs.Regular.{put_ordered}
use Rattle.sentry_json.specs.Keys.{is_among, beside}
use Rattle.sentry_json.specs.Nodes.{items_data, named_after, named_by}
use Rattle.sentry_json.specs.declared.object.Named.{Named}

pub more_items : {N : Type 0} (f : N → Data) (xs : List N) (x : N) (vs : List Value) (v : Value) → items_data f xs ≡ items_view vs → f x ≡ view v → items_data f (xs ++ x ∷ []) ≡ items_view (vs ++ v ∷ [])
more_items f [] x [] v h s = ap (λ d. item d no_items) s
more_items f [] x (w ∷ vs) v h s = absurd cc
more_items f (y ∷ xs) x [] v h s = absurd cc
more_items f (y ∷ xs) x (w ∷ vs) v h s =
    let a : f y ≡ view w = cc in
    let b : items_data f xs ≡ items_view vs = cc in
    let r = more_items f xs x vs v b s in cc

pub more_items_at : {N : Type 0} (f : N → Data) (xs new : List N) (x : N) (vs : List Value) (i : ℕ) (v : Value) → i < length vs → v ≡ get_or vs i v → new ≡ xs ++ x ∷ [] → items_data f xs ≡ items_view (take i vs) → f x ≡ view v
    → items_data f new ≡ items_view (take (i + 1) vs)
more_items_at f xs new x vs i v lt at made h s = rw (take_more vs i v lt, ← at, made) (more_items f xs x (take i vs) v h s)

-- the data of some nodes, and then those of ds
abbrev pub items_before : {N : Type 0} → (N → Data) → List N → Items → Items
items_before f [] ds = ds
items_before f (x ∷ xs) ds = item (f x) (items_before f xs ds)

pub items_before_none : {N : Type 0} (f : N → Data) (xs : List N) → items_before f xs no_items ≡ items_data f xs
items_before_none f [] = refl
items_before_none f (x ∷ xs) = ap (item (f x)) (items_before_none f xs)

pub items_push : {N : Type 0} (f : N → Data) (xs : List N) (x : N) (ds : Items) → items_before f xs (item (f x) ds) ≡ items_before f (xs ++ x ∷ []) ds
items_push f [] x ds = refl
items_push f (y ∷ xs) x ds = ap (item (f y)) (items_push f xs x ds)

-- ---- members as they come, put one after the other

pub named_last : {N : Type 0} (f : N → Data) (ms : List (Named N)) (m : Named N) → named_by f (ms ++ m ∷ []) ≡ put m.key.now (f m.node) (named_by f ms)
named_last {N} f ms m = after no_members ms
  where
    after : (before : Members) (ms : List (Named N)) → named_after f before (ms ++ m ∷ []) ≡ put m.key.now (f m.node) (named_after f before ms)
    after before [] = refl
    after before (n ∷ ns) = after (put n.key.now (f n.node) before) ns

-- the last of the members
pub named_more : {N : Type 0} (f : N → Data) (ms : List (Named N)) (i : ℕ) (m : Named N) → i < length ms → m ≡ get_or ms i m → named_by f (take (i + 1) ms) ≡ put m.key.now (f m.node) (named_by f (take i ms))
named_more f ms i m lt at = ap (named_by f) (take_more ms i m lt) ∙ rw (← at) (named_last f (take i ms) m)

named_back : {N : Type 0} (f : N → Data) (ms : List (Named N)) (n : ℕ) (m : Named N) → 0 < n → n ≤ length ms → m ≡ get_or ms (n - 1) m → named_by f (take n ms) ≡ put m.key.now (f m.node) (named_by f (take (n - 1) ms))
named_back f ms zero m some within at = absurd (omega (arith, some))
named_back f ms (suc i) m some within at =
    let back : suc i - 1 ≡ i = omega arith in
    let next : i + 1 ≡ suc i = omega arith in
    let here = named_more f ms i m (omega (arith, within)) (subst (λ k. m ≡ get_or ms k m) back at) in
    rw back (subst (λ k. named_by f (take k ms) ≡ put m.key.now (f m.node) (named_by f (take i ms))) next here)

-- the member that comes last is that of its key
pub named_here : {N : Type 0} (f : N → Data) (ms : List (Named N)) (n : ℕ) (m : Named N) (key : List ℕ) → 0 < n → n ≤ length ms → m ≡ get_or ms (n - 1) m → bytes_eq m.key.now key ≡ true → get_member key (named_by f (take n ms)) ≡ Some (f m.node)
named_here f ms n m key some within at same =
    ap (get_member key) (named_back f ms n m some within at) ∙ ap (λ k. get_member key (put k (f m.node) (named_by f (take (n - 1) ms)))) ((bytes_eq-Decides m.key.now key).0 same) ∙ get_member-put key (f m.node) (named_by f (take (n - 1) ms))

-- one of another key takes nothing from those before
pub named_there : {N : Type 0} (f : N → Data) (ms : List (Named N)) (n : ℕ) (m : Named N) (key : List ℕ) → 0 < n → n ≤ length ms → m ≡ get_or ms (n - 1) m → bytes_eq m.key.now key ≡ false → get_member key (named_by f (take n ms)) ≡ get_member key (named_by f (take (n - 1) ms))
named_there f ms n m key some within at other =
    ap (get_member key) (named_back f ms n m some within at) ∙ get_member-put_other key m.key.now (f m.node) (named_by f (take (n - 1) ms)) (λ same. true≢false (sym ((bytes_eq-Decides m.key.now key).1 (sym same)) ∙ other))

pub named_ordered : {N : Type 0} (f : N → Data) (ms : List (Named N)) → IsOrdered (named_by f ms)
named_ordered {N} f ms = after no_members ms tt
  where
    after : (before : Members) (ms : List (Named N)) → IsOrdered before → IsOrdered (named_after f before ms)
    after before [] ordered = ordered
    after before (m ∷ ms) ordered = after (put m.key.now (f m.node) before) ms (put_ordered m.key.now (f m.node) before ordered)

-- one more member, of one of the names
pub beside_same : {N : Type 0} (f : N → Data) (names : List (List ℕ)) (ms : List (Named N)) (i : ℕ) (m : Named N) → i < length ms → m ≡ get_or ms i m → is_among m.key.now names ≡ true
    → beside names (named_by f (take i ms)) ≡ beside names (named_by f (take (i + 1) ms))
beside_same f names ms i m lt at named = sym (ap (beside names) (named_more f ms i m lt at) ∙ beside_named names m.key.now (f m.node) (named_by f (take i ms)) named)

-- one more member, of another key
pub beside_more : {N : Type 0} (f : N → Data) (names : List (List ℕ)) (ms : List (Named N)) (i : ℕ) (m : Named N) → i < length ms → m ≡ get_or ms i m → is_among m.key.now names ≡ false
    → put m.key.now (f m.node) (beside names (named_by f (take i ms))) ≡ beside names (named_by f (take (i + 1) ms))
beside_more f names ms i m lt at other = sym (ap (beside names) (named_more f ms i m lt at) ∙ beside_put names m.key.now (f m.node) (named_by f (take i ms)) (named_ordered f (take i ms)) other)

-- those of a tree come in their order
pub named_sorted : {N : Type 0} (f : N → Data) (ms new : List (Named N)) (m : Named N) (done : List Entry) (e : Entry) (more : List Entry) → IsStrictlySortedBy string_cmp (keys_of (done ++ e ∷ more)) → new ≡ ms ++ m ∷ [] → m.key.now ≡ string_bytes e.0 → f m.node ≡ view e.1
    → named_by f ms ≡ members_view done → named_by f new ≡ members_view (done ++ e ∷ [])
named_sorted f ms new m done e more sorted made named seen h = ap (named_by f) made ∙ named_last f ms m ∙ rw (named, seen, h) (put_last done e more sorted)

-- ---- trees of their own, grown from nodes

pub items_viewed : (vs : List Value) → items_before view vs no_items ≡ items_view vs
items_viewed [] = refl
items_viewed (v ∷ vs) = ap (item (view v)) (items_viewed vs)
