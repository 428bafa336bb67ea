-- Members that come with their keys: what the last ones say, whatever came before them.
use Rattle.std.proofs.Common.{◌≡◌, ◌<◌, ◌≤◌, ◌+◌, ◌-◌, ℕ, List, [], ◌∷◌, ◌++◌, length, get_or, take, drop, bytes_eq, Bool, true, false, Option, Some, None, refl, sym, ap, ◌∙◌, arith, true≢false}
use Rattle.std.specs.Prelude.{is_some}
use Rattle.std.proofs.lemmas.List.{drop_more, take-append-drop}
use Rattle.std.proofs.lemmas.Slice.Eq.{bytes_eq-Decides}
use Rattle.serde_json.specs.Data.{Data, Members, no_members, put}
use Rattle.serde_json.specs.Find.{get_member}
use Rattle.serde_json.proofs.Views.{get_member-put, get_member-put_other}
use Rattle.sentry_json.proofs.Puts.{put_over, put_apart}
use Rattle.sentry_json.specs.Nodes.{named_after, named_by}
use Rattle.sentry_json.specs.declared.object.Named.{Named}

apart : (k l : List ℕ) → bytes_eq k l ≡ false → k ≡ l → ⊥
apart k l other same = true≢false (sym ((bytes_eq-Decides k l).1 same) ∙ other)

or_else : Option Data → Option Data → Option Data
or_else (Some d) o = Some d
or_else None o = o

or_else_again : (a b c : Option Data) → or_else a (or_else b c) ≡ or_else (or_else a b) c
unfolding or_else
or_else_again (Some d) b c = refl
or_else_again None b c = refl

module _ {N : Type 0} (f : N → Data) where
  put_get_at : (b : Bool) (k l : List ℕ) (e : Data) (before : Members) → bytes_eq k l ≡ b → get_member k (put l e before) ≡ or_else (get_member k (put l e no_members)) (get_member k before)
  unfolding or_else
  put_get_at true k l e before is =
      let same : k ≡ l = (bytes_eq-Decides k l).0 is in
      rw same (get_member-put l e before ∙ sym (ap (λ o. or_else o (get_member l before)) (get_member-put l e no_members)))
  put_get_at false k l e before is =
      get_member-put_other k l e before (apart k l is) ∙ sym (ap (λ o. or_else o (get_member k before)) (get_member-put_other k l e no_members (apart k l is)))

  -- what stands at a key: the last of it among these, or else what stood there before
  get_after : (k : List ℕ) (before : Members) (ms : List (Named N)) → get_member k (named_after f before ms) ≡ or_else (get_member k (named_by f ms)) (get_member k before)
  unfolding or_else
  get_after k before [] = refl
  get_after k before (m ∷ ms) =
      get_after k (put m.key.now (f m.node) before) ms
      ∙ ap (or_else (get_member k (named_by f ms))) (put_get_at _ k m.key.now (f m.node) before refl)
      ∙ or_else_again (get_member k (named_by f ms)) (get_member k (put m.key.now (f m.node) no_members)) (get_member k before)
      ∙ ap (λ o. or_else o (get_member k before)) (sym (get_after k (put m.key.now (f m.node) no_members) ms))

  get_first : (k : List ℕ) (m : Named N) (ms : List (Named N)) → get_member k (named_by f (m ∷ ms)) ≡ or_else (get_member k (named_by f ms)) (get_member k (put m.key.now (f m.node) no_members))
  get_first k m ms = get_after k (put m.key.now (f m.node) no_members) ms

  get_others_at : (k : List ℕ) (m : Named N) (ms : List (Named N)) (o : Option Data) → bytes_eq k m.key.now ≡ false → get_member k (named_by f ms) ≡ o → get_member k (named_by f (m ∷ ms)) ≡ get_member k (named_by f ms)
  unfolding or_else
  get_others_at k m ms (Some d) other is = get_first k m ms ∙ rw is refl
  get_others_at k m ms None other is = get_first k m ms ∙ rw is (get_member-put_other k m.key.now (f m.node) no_members (apart k m.key.now other))

  get_others : (k : List ℕ) (m : Named N) (ms : List (Named N)) → bytes_eq k m.key.now ≡ false → get_member k (named_by f (m ∷ ms)) ≡ get_member k (named_by f ms)
  get_others k m ms other = get_others_at k m ms _ other refl

  get_same : (k : List ℕ) (m : Named N) (ms : List (Named N)) → k ≡ m.key.now → get_member k (named_by f ms) ≡ None → get_member k (named_by f (m ∷ ms)) ≡ Some (f m.node)
  unfolding or_else
  get_same k m ms same is = get_first k m ms ∙ rw is (rw same (get_member-put m.key.now (f m.node) no_members))

  some_is : (k : List ℕ) (m : Named N) (ms : List (Named N)) → k ≡ m.key.now → (o : Option Data) → get_member k (named_by f ms) ≡ o → is_some (get_member k (named_by f (m ∷ ms))) ≡ true
  unfolding or_else
  some_is k m ms same (Some d) is =
      let there : get_member k (named_by f (m ∷ ms)) ≡ Some d = get_first k m ms ∙ rw is refl in
      ap is_some there
  some_is k m ms same None is = ap is_some (get_same k m ms same is)

  -- a member of a key that comes again counts for nothing
  overwritten_at : (b : Bool) (k : List ℕ) (d : Data) (before : Members) (m : Named N) (ms : List (Named N)) → bytes_eq k m.key.now ≡ b
      → ((x : Members) → is_some (get_member k (named_by f ms)) ≡ true → named_after f (put k d x) ms ≡ named_after f x ms) → is_some (get_member k (named_by f (m ∷ ms))) ≡ true
      → named_after f (put k d before) (m ∷ ms) ≡ named_after f before (m ∷ ms)
  overwritten_at true k d before m ms is later there =
      let same : m.key.now ≡ k = sym ((bytes_eq-Decides k m.key.now).0 is) in
      ap (λ x. named_after f x ms) (rw same (put_over k (f m.node) d before))
  overwritten_at false k d before m ms is later there =
      ap (λ x. named_after f x ms) (sym (put_apart k m.key.now d (f m.node) before (apart k m.key.now is)))
      ∙ later (put m.key.now (f m.node) before) (sym (ap is_some (get_others k m ms is)) ∙ there)

  overwritten : (k : List ℕ) (d : Data) (before : Members) (ms : List (Named N)) → is_some (get_member k (named_by f ms)) ≡ true → named_after f (put k d before) ms ≡ named_after f before ms
  overwritten k d before [] there = absurd (true≢false (sym there))
  overwritten k d before (m ∷ ms) there = overwritten_at _ k d before m ms refl (λ x. overwritten k d x ms) there

  -- one of a key that does not come again stands there in the end
  stays_at : (b : Bool) (k : List ℕ) (d : Data) (before : Members) (m : Named N) (ms : List (Named N)) → bytes_eq k m.key.now ≡ b
      → ((x : Members) → is_some (get_member k (named_by f ms)) ≡ false → named_after f (put k d x) ms ≡ put k d (named_after f x ms)) → is_some (get_member k (named_by f (m ∷ ms))) ≡ false
      → named_after f (put k d before) (m ∷ ms) ≡ put k d (named_after f before (m ∷ ms))
  stays_at true k d before m ms is later none =
      absurd (true≢false (sym (some_is k m ms ((bytes_eq-Decides k m.key.now).0 is) _ refl) ∙ none))
  stays_at false k d before m ms is later none =
      ap (λ x. named_after f x ms) (sym (put_apart k m.key.now d (f m.node) before (apart k m.key.now is)))
      ∙ later (put m.key.now (f m.node) before) (sym (ap is_some (get_others k m ms is)) ∙ none)

  stays : (k : List ℕ) (d : Data) (before : Members) (ms : List (Named N)) → is_some (get_member k (named_by f ms)) ≡ false → named_after f (put k d before) ms ≡ put k d (named_after f before ms)
  stays k d before [] none = refl
  stays k d before (m ∷ ms) none = stays_at _ k d before m ms refl (λ x. stays k d x ms) none

  -- ---- read from the last to the first

  last_ones : (ms : List (Named N)) (n : ℕ) (m : Named N) → 0 < n → n ≤ length ms → m ≡ get_or ms (n - 1) m → drop (n - 1) ms ≡ m ∷ drop n ms
  last_ones ms n m some within at =
      let next : n - 1 + 1 ≡ n = omega arith in
      drop_more ms (n - 1) m (omega arith) ∙ rw (next, ← at) refl

  pub one_passed_over : (ms : List (Named N)) (n : ℕ) (m : Named N) → 0 < n → n ≤ length ms → m ≡ get_or ms (n - 1) m → is_some (get_member m.key.now (named_by f (drop n ms))) ≡ true → named_by f (drop (n - 1) ms) ≡ named_by f (drop n ms)
  one_passed_over ms n m some within at there = ap (named_by f) (last_ones ms n m some within at) ∙ overwritten m.key.now (f m.node) no_members (drop n ms) there

  pub one_put : (ms : List (Named N)) (n : ℕ) (m : Named N) → 0 < n → n ≤ length ms → m ≡ get_or ms (n - 1) m → is_some (get_member m.key.now (named_by f (drop n ms))) ≡ false
      → named_by f (drop (n - 1) ms) ≡ put m.key.now (f m.node) (named_by f (drop n ms))
  one_put ms n m some within at none = ap (named_by f) (last_ones ms n m some within at) ∙ stays m.key.now (f m.node) no_members (drop n ms) none

  after_all : (before : Members) (ms ns : List (Named N)) → named_after f before (ms ++ ns) ≡ named_after f (named_after f before ms) ns
  after_all before [] ns = refl
  after_all before (m ∷ ms) ns = after_all (put m.key.now (f m.node) before) ms ns

  -- the last of its key is the one that counts
  pub one_counts : (ms : List (Named N)) (n : ℕ) (m : Named N) → 0 < n → n ≤ length ms → m ≡ get_or ms (n - 1) m → is_some (get_member m.key.now (named_by f (drop n ms))) ≡ false → get_member m.key.now (named_by f ms) ≡ Some (f m.node)
  one_counts ms n m some within at none =
      let before = named_by f (take (n - 1) ms) in
      let whole : named_by f ms ≡ put m.key.now (f m.node) (named_after f before (drop n ms)) =
      sym (ap (named_by f) (take-append-drop (n - 1) ms)) ∙ after_all no_members (take (n - 1) ms) (drop (n - 1) ms)
      ∙ ap (named_after f before) (last_ones ms n m some within at) ∙ stays m.key.now (f m.node) before (drop n ms) none in
      ap (get_member m.key.now) whole ∙ get_member-put m.key.now (f m.node) (named_after f before (drop n ms))
