-- That members are read into a map at once: into pairs, of which the map is made.
use Rattle.std.proofs.Common.{◌≡◌, ℕ, ◌+◌, ◌<◌, List, [], ◌∷◌, ◌++◌, length, get_or, take, String, Global, string_bytes, string_cmp, refl, ap, sym, ◌∙◌, None}
use Rattle.std.proofs.lemmas.List.{take_more}
use Rattle.std.proofs.lemmas.Map.Lookups.{exact_bytes}
use Rattle.std.specs.List.Sorted.{IsStrictlySortedBy}
use Rattle.std.specs.Map.{keys_of}
use Rattle.std.specs.Prelude.{⊤}
use Rattle.std.specs.String.{string_cmp_total}
use Rattle.std.specs.BTreeMap.{BTreeMap, IsFromIterResult, insert_entry}
use Rattle.serde_json.specs.Data.{Data, Members, no_members, put}
use Rattle.sentry_json.specs.Nodes.{named_after, named_by}
use Rattle.sentry_json.specs.declared.object.Named.{Named}
use Rattle.sentry_tables.specs.Cell.{Cell, Entries, no_entries, entry}
use Rattle.sentry_tables.specs.Cells.{entries}
use Rattle.sentry_tables.specs.Shows.{MembersShow}
use Rattle.sentry_tables.proofs.Inserted.{inserted, sorted_inserted, found_inserted, same_found}
use Rattle.sentry_tables.proofs.ListsShown.{shown_put_as}

module _ {N A : Type 0} (P : List ℕ → Data → Cell → Type 0) (w : N → Data) (f : A → Cell) where
  -- pair by pair, with the member's key
  abbrev pub PairsShow : List (Named N) → List (String Global × A) → Type 0
  PairsShow [] [] = ⊤
  PairsShow [] (x ∷ xs) = ⊥
  PairsShow (m ∷ ms) [] = ⊥
  PairsShow (m ∷ ms) (x ∷ xs) = (string_bytes x.0 ≡ m.key.now) × P m.key.now (w m.node) (f x.1) × PairsShow ms xs

  pairs_more : (ms : List (Named N)) (m : Named N) (xs : List (String Global × A)) (x : String Global × A) → PairsShow ms xs → string_bytes x.0 ≡ m.key.now → P m.key.now (w m.node) (f x.1) → PairsShow (ms ++ m ∷ []) (xs ++ x ∷ [])
  pairs_more [] m [] x h named s = (named, s, tt)
  pairs_more [] m (y ∷ ys) x h named s = absurd h
  pairs_more (n ∷ ns) m [] x h named s = absurd h
  pairs_more (n ∷ ns) m (y ∷ ys) x h named s = (h.0, h.1, pairs_more ns m ys x h.2 named s)

  pub pairs_more_at : (ms : List (Named N)) (i : ℕ) (m : Named N) (xs ys : List (String Global × A)) (name : String Global) (v : A) → i < length ms → m ≡ get_or ms i m → ys ≡ xs ++ (name, v) ∷ []
      → PairsShow (take i ms) xs → string_bytes name ≡ m.key.now → P m.key.now (w m.node) (f v) → PairsShow (take (i + 1) ms) ys
  pairs_more_at ms i m xs ys name v lt at made h named s = rw (take_more ms i m lt, ← at, made) (pairs_more (take i ms) m xs (name, v) h named s)

  -- the members that the pairs show, put one after the other, show what the pairs give that are
  -- inserted so
  pairs_shown : (before : Members) (es : List (String Global × A)) (ms : List (Named N)) (xs : List (String Global × A)) → MembersShow P before (entries f es) → PairsShow ms xs
      → MembersShow P (named_after w before ms) (entries f (inserted string_cmp es xs))
  pairs_shown before es [] [] h s = h
  pairs_shown before es [] (x ∷ xs) h s = absurd s
  pairs_shown before es (m ∷ ms) [] h s = absurd s
  pairs_shown before es (m ∷ ms) (x ∷ xs) h s =
      pairs_shown (put m.key.now (w m.node) before) (insert_entry string_cmp es x.0 x.1) ms xs (shown_put_as P f m.key.now x.0 (w m.node) x.1 before es (insert_entry string_cmp es x.0 x.1) s.0 refl s.1 h) s.2

  none_sorted : IsStrictlySortedBy (string_cmp {Z = Global}) (keys_of {X = A} [])
  unfolding IsStrictlySortedBy
  none_sorted = tt

  pub made_shown : (ms : List (Named N)) (xs : List (String Global × A)) (map : BTreeMap (String Global) A) → PairsShow ms xs → IsFromIterResult string_cmp xs map → MembersShow P (named_by w ms) (entries f map.entries)
  made_shown ms xs map s made =
      let more : String Global → A → Entries → Entries = λ k v es. entry (string_bytes k) (f v) es in
      let same : entries f map.entries ≡ entries f (inserted string_cmp [] xs) =
      same_found string_cmp_total no_entries more (entries f) refl (λ x es. refl) (λ k l e. ap (λ b v es. entry b (f v) es) (exact_bytes (string_bytes k) (string_bytes l) e)) map.entries (inserted string_cmp [] xs)
      made.1 (sorted_inserted string_cmp_total [] xs none_sorted) (λ q. made.0 q ∙ sym (found_inserted string_cmp_total [] xs (λ _. None) (λ _. refl) q)) in
      rw same (pairs_shown no_members [] ms xs tt s)
