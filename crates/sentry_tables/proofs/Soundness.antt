-- Trees without floats that a program holds are sound.
use Rattle.std.proofs.Common.{◌≡◌, ℕ, ◌+◌, ◌<◌, List, [], ◌∷◌, ◌++◌, length, get_or, take, Less, string_bytes, string_cmp, IsUtf8}
use Rattle.std.proofs.lemmas.List.{take_more}
use Rattle.std.specs.List.{AllByRecursion}
use Rattle.std.specs.List.Sorted.{IsStrictlySortedBy}
use Rattle.std.specs.Map.{keys_of}
use Rattle.serde_json.specs.View.{view, items_view, members_view}
use Rattle.serde_json.specs.declared.value.Value.{Value}
use Rattle.serde_json.proofs.Views.{Entry}
use Rattle.sentry_json.specs.Sound.{IsSound, AreSound, MembersAreSound, AllAfter, IsOrdered}

push_sound : (vs : List Value) (v : Value) → AreSound (items_view vs) → IsSound (view v) → AreSound (items_view (vs ++ v ∷ []))
push_sound [] v h s = (s, tt)
push_sound (u ∷ us) v h s = (h.0, push_sound us v h.1 s)

pub item_sound : (vs : List Value) (i : ℕ) (v : Value) → i < length vs → v ≡ get_or vs i v → AreSound (items_view (take i vs)) → IsSound (view v) → AreSound (items_view (take (i + 1) vs))
item_sound vs i v lt at h s = rw (take_more vs i v lt, ← at) (push_sound (take i vs) v h s)

pub member_sound : (done : List Entry) (e : Entry) → MembersAreSound (members_view done) → IsUtf8 (string_bytes e.0) → IsSound (view e.1) → MembersAreSound (members_view (done ++ e ∷ []))
member_sound [] e h key s = (key, s, tt)
member_sound (x ∷ xs) e h key s = (h.0, h.1, member_sound xs e h.2 key s)

all_after : (e : Entry) (es : List Entry) → AllByRecursion (λ y. string_cmp e.0 y ≡ Less) (keys_of es) → AllAfter (string_bytes e.0) (members_view es)
all_after e [] h = tt
all_after e (x ∷ xs) h = (h.0, all_after e xs h.1)

-- a map's keys are in order
sorted_ordered : (es : List Entry) → IsStrictlySortedBy string_cmp (keys_of es) → IsOrdered (members_view es)
unfolding IsStrictlySortedBy
sorted_ordered [] h = tt
sorted_ordered (x ∷ xs) h = (all_after x xs h.0, sorted_ordered xs h.1)

pub members_sound : (done es : List Entry) → es ≡ done → IsStrictlySortedBy string_cmp (keys_of es) → MembersAreSound (members_view done) → IsOrdered (members_view es) × MembersAreSound (members_view es)
members_sound done es all sorted h = (sorted_ordered es sorted, rw all h)
