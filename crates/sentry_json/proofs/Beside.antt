-- Keys among others, and the members of other keys.
use Rattle.std.proofs.Common.{◌≡◌, ℕ, zero, suc, ◌<◌, List, [], ◌∷◌, length, get_or, map, bytes_eq, Bor, refl, sym, ap, ◌∙◌, Bool, true, false, cond, ◌||◌, not, Some, arith, true≢false, Ordering, Less, Equal, Greater, nat_cmp}
use Rattle.std.proofs.lemmas.Map.Text.{is_eq-slice_cmp}
use Rattle.std.proofs.lemmas.Bool.{false_from_ne_true, or_right}
use Rattle.std.proofs.lemmas.Slice.Eq.{bytes_eq-Decides}
use Rattle.std.specs.Ordering.{match_ordering, is_eq}
use Rattle.std.specs.Cmp.Lexicographic.{slice_cmp}
use Rattle.serde_json.specs.Data.{Data, Members, no_members, member, put}
use Rattle.serde_json.specs.Find.{get_member}
use Rattle.sentry_json.specs.Sound.{AllAfter, IsOrdered}
use Rattle.sentry_json.proofs.Regular.{put_ordered}
use Rattle.sentry_json.specs.Keys.{is_among, StandsAt, beside, filtered}

-- ---- a search for a key

pub stands_at : (key : List ℕ) (names : List (Bor (List ℕ))) (i : ℕ) (name : Bor (List ℕ)) → i < length names → bytes_eq key (get_or names i name).now ≡ true → StandsAt key i (map (λ n. n.now) names)
stands_at key [] i name lt same = absurd (omega arith)
stands_at key (n ∷ names) zero name lt same = (bytes_eq-Decides key n.now).0 same
stands_at key (n ∷ names) (suc i) name lt same = stands_at key names i name (omega arith) same

-- texts of different lengths differ
pub apart : (key other : List ℕ) → ¬ (length key ≡ length other) → bytes_eq key other ≡ false
apart key other differ = false_from_ne_true (bytes_eq key other) (λ same. differ (ap length ((bytes_eq-Decides key other).0 same)))

pub not_at : (key : List ℕ) (names : List (Bor (List ℕ))) (i : ℕ) (name : Bor (List ℕ)) → i < length names → bytes_eq key (get_or names i name).now ≡ false → StandsAt key i (map (λ n. n.now) names) → ⊥
not_at key [] i name lt other at = absurd (omega arith)
not_at key (n ∷ names) zero name lt other at = true≢false (sym ((bytes_eq-Decides key n.now).1 at) ∙ other)
not_at key (n ∷ names) (suc i) name lt other at = not_at key names i name (omega arith) other at

pub stands_within : (key : List ℕ) (i : ℕ) (ks : List (List ℕ)) → StandsAt key i ks → i < length ks
stands_within key i [] at = absurd at
stands_within key zero (k ∷ ks) at = omega arith
stands_within key (suc i) (k ∷ ks) at = omega (arith, stands_within key i ks at)

pub nowhere : (key : List ℕ) (ks : List (List ℕ)) → ((i : ℕ) → StandsAt key i ks → ⊥) → is_among key ks ≡ false
nowhere key [] h = refl
nowhere key (k ∷ ks) h = at (bytes_eq key k) refl (nowhere key ks (λ i. h (suc i)))
  where
    at : (b : Bool) → bytes_eq key k ≡ b → is_among key ks ≡ false → (b || is_among key ks) ≡ false
    at true is later = absurd (h 0 ((bytes_eq-Decides key k).0 is))
    at false is later = later

pub among : (key : List ℕ) (i : ℕ) (ks : List (List ℕ)) → StandsAt key i ks → is_among key ks ≡ true
among key i [] h = absurd h
among key zero (k ∷ ks) h = rw ((bytes_eq-Decides key k).1 h)
among key (suc i) (k ∷ ks) h = or_right (bytes_eq key k) _ (among key i ks h)

-- ---- the members whose keys pass a test, and those of other keys

same_key : (k l : List ℕ) → slice_cmp nat_cmp k l ≡ Equal → k ≡ l
same_key k l is = (bytes_eq-Decides k l).0 (sym (is_eq-slice_cmp k l) ∙ ap is_eq is)

put_first : (k : List ℕ) (d : Data) (ms : Members) → AllAfter k ms → put k d ms ≡ member k d ms
put_first k d no_members h = refl
put_first k d (member l e ms) h = rw h.0

module _ (passes : List ℕ → Bool) where
  fails_at : (o : Ordering) (k l : List ℕ) (d e : Data) (ms : Members) → slice_cmp nat_cmp k l ≡ o → passes k ≡ false → filtered passes (put k d ms) ≡ filtered passes ms
      → filtered passes (match_ordering o (member k d (member l e ms)) (member l d ms) (member l e (put k d ms))) ≡ filtered passes (member l e ms)
  fails_at Less k l d e ms is fails more = rw fails
  fails_at Equal k l d e ms is fails more = let l_fails : passes l ≡ false = rw (← same_key k l is) fails in rw l_fails
  fails_at Greater k l d e ms is fails more = rw more

  -- a member whose key fails the test changes nothing
  pub put_fails : (k : List ℕ) (d : Data) (ms : Members) → passes k ≡ false → filtered passes (put k d ms) ≡ filtered passes ms
  put_fails k d no_members fails = rw fails
  put_fails k d (member l e ms) fails = fails_at _ k l d e ms refl fails (put_fails k d ms fails)

  filtered_after : (k : List ℕ) (ms : Members) → AllAfter k ms → AllAfter k (filtered passes ms)
  filtered_after k no_members h = tt
  filtered_after k (member l d ms) h = at (passes l) (filtered_after k ms h.1)
    where
      at : (b : Bool) → AllAfter k (filtered passes ms) → AllAfter k (cond b (member l d (filtered passes ms)) (filtered passes ms))
      at true more = (h.0, more)
      at false more = more

  passes_at : (o : Ordering) (k l : List ℕ) (d e : Data) (ms : Members) → slice_cmp nat_cmp k l ≡ o → IsOrdered (match_ordering o (member k d (member l e ms)) (member l d ms) (member l e (put k d ms))) → passes k ≡ true
      → filtered passes (put k d ms) ≡ put k d (filtered passes ms) → filtered passes (match_ordering o (member k d (member l e ms)) (member l d ms) (member l e (put k d ms))) ≡ put k d (filtered passes (member l e ms))
  passes_at Less k l d e ms is ordered pass more = rw pass (sym (put_first k d (filtered passes (member l e ms)) (filtered_after k (member l e ms) ordered.0)))
  passes_at Equal k l d e ms is ordered pass more = let l_passes : passes l ≡ true = rw (← same_key k l is) pass in rw (l_passes, is)
  passes_at Greater k l d e ms is ordered pass more = rw more (at (passes l))
    where
      at : (b : Bool) → cond b (member l e (put k d (filtered passes ms))) (put k d (filtered passes ms)) ≡ put k d (cond b (member l e (filtered passes ms)) (filtered passes ms))
      at true = rw is
      at false = refl

  -- a member whose key passes it is put among those that pass
  pub put_passes : (k : List ℕ) (d : Data) (ms : Members) → IsOrdered ms → passes k ≡ true → filtered passes (put k d ms) ≡ put k d (filtered passes ms)
  put_passes k d no_members ordered pass = rw pass
  put_passes k d (member l e ms) ordered pass = passes_at _ k l d e ms refl (put_ordered k d (member l e ms) ordered) pass (put_passes k d ms ordered.1 pass)

  -- a key that passes it is found there
  pub get_passes : (k : List ℕ) (ms : Members) → passes k ≡ true → get_member k (filtered passes ms) ≡ get_member k ms
  get_passes k no_members pass = refl
  get_passes k (member l d ms) pass = at (slice_cmp nat_cmp k l) refl (get_passes k ms pass)
    where
      by_test : (b : Bool) → get_member k (member l d (filtered passes ms)) ≡ get_member k ms → get_member k (filtered passes ms) ≡ get_member k ms → get_member k (cond b (member l d (filtered passes ms)) (filtered passes ms)) ≡ get_member k ms
      by_test true is more = is
      by_test false is more = more

      at : (o : Ordering) → slice_cmp nat_cmp k l ≡ o → get_member k (filtered passes ms) ≡ get_member k ms → get_member k (filtered passes (member l d ms)) ≡ match_ordering o (get_member k ms) (Some d) (get_member k ms)
      at Less is more = by_test (passes l) (rw is more) more
      at Equal is more = let l_passes : passes l ≡ true = rw (← same_key k l is) pass in rw (l_passes, is)
      at Greater is more = by_test (passes l) (rw is more) more

beside_is : (names : List (List ℕ)) (ms : Members) → beside names ms ≡ filtered (λ k. not (is_among k names)) ms
beside_is names no_members = refl
beside_is names (member k d ms) = at (is_among k names) (beside_is names ms)
  where
    at : (b : Bool) → beside names ms ≡ filtered (λ k. not (is_among k names)) ms → cond b (beside names ms) (member k d (beside names ms)) ≡ cond (not b) (member k d (filtered (λ k. not (is_among k names)) ms)) (filtered (λ k. not (is_among k names)) ms)
    at true is = is
    at false is = ap (member k d) is

-- a member of one of the names changes nothing
pub beside_named : (names : List (List ℕ)) (k : List ℕ) (d : Data) (ms : Members) → is_among k names ≡ true → beside names (put k d ms) ≡ beside names ms
beside_named names k d ms named = beside_is names (put k d ms) ∙ put_fails (λ l. not (is_among l names)) k d ms (ap not named) ∙ sym (beside_is names ms)

-- a member of another key is put among them
pub beside_put : (names : List (List ℕ)) (k : List ℕ) (d : Data) (ms : Members) → IsOrdered ms → is_among k names ≡ false → beside names (put k d ms) ≡ put k d (beside names ms)
beside_put names k d ms ordered other = beside_is names (put k d ms) ∙ put_passes (λ l. not (is_among l names)) k d ms ordered (ap not other) ∙ ap (put k d) (sym (beside_is names ms))

pub all_after : (names : List (List ℕ)) (k : List ℕ) (ms : Members) → AllAfter k ms → AllAfter k (beside names ms)
all_after names k ms h = rw (beside_is names ms) (filtered_after (λ l. not (is_among l names)) k ms h)
