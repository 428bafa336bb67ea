-- Keys among others, and the members of other keys.
use Rattle.std.specs.Prelude.{◌≡◌, ℕ, zero, suc, List, [], ◌∷◌, Bool, true, false, ◌||◌, ◌&&◌, not, cond}
use Rattle.std.specs.Str.{bytes_eq}
use Rattle.serde_json.specs.Data.{Data, null, boolean, number, string, array, object, Members, no_members, member}

-- the key is one of these
abbrev pub is_among : List ℕ → List (List ℕ) → Bool
is_among k [] = false
is_among k (l ∷ ls) = bytes_eq k l || is_among k ls

-- no key stands there twice
abbrev pub are_distinct : List (List ℕ) → Bool
are_distinct [] = true
are_distinct (k ∷ ks) = not (is_among k ks) && are_distinct ks

-- the key has this place among these, counted from 0
abbrev pub StandsAt : List ℕ → ℕ → List (List ℕ) → Type 0
StandsAt k i [] = ⊥
StandsAt k zero (l ∷ ls) = k ≡ l
StandsAt k (suc i) (l ∷ ls) = StandsAt k i ls

-- the members of other keys
abbrev pub beside : List (List ℕ) → Members → Members
beside ks no_members = no_members
beside ks (member k d ms) = cond (is_among k ks) (beside ks ms) (member k d (beside ks ms))

-- the members whose keys pass the test
abbrev pub filtered : (List ℕ → Bool) → Members → Members
filtered passes no_members = no_members
filtered passes (member k d ms) = cond (passes k) (member k d (filtered passes ms)) (filtered passes ms)

-- the members of these keys
abbrev pub among : List (List ℕ) → Members → Members
among ks ms = filtered (λ k. is_among k ks) ms

-- the tree; of an object, the members of these keys alone
abbrev pub at_keys : List (List ℕ) → Data → Data
at_keys ks null = null
at_keys ks (boolean b) = boolean b
at_keys ks (number n) = number n
at_keys ks (string s) = string s
at_keys ks (array ds) = array ds
at_keys ks (object ms) = object (among ks ms)
