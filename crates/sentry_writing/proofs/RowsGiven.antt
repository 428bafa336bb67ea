-- What rows give.
use Rattle.std.proofs.Common.{◌≡◌, ℕ, List, [], ◌∷◌, length, String, Global, false, refl}
use Rattle.std.specs.Prelude.{◌==◌, bytes_eq, IsUtf8, ⊤, true}
use Rattle.sentry_tables.specs.Kinds.{text_kind}
use Rattle.serde_json.specs.Data.{no_members, member, string, Members}
use Rattle.sentry_tables.specs.Cell.{Cell, text}
use Rattle.sentry_tables.specs.Kind.{Kind, default, list, map, values}
use Rattle.sentry_tables.specs.Cells.{list_cell, map_cell, empty_list, empty_map}
use Rattle.sentry_tables.specs.Meets.{IsPlain, IsStored}
use Rattle.sentry_writing.specs.Given.{row_given, Took, GivesRow}
use Rattle.sentry_tables.specs.Writes.{written}

pub list_given : {A : Type 0} (key : List ℕ) (K : Kind) (f : A → Cell) (xs : List A) → (length xs == 0) ≡ false
    → row_given key (default empty_list) (list K) (list_cell f xs) ≡ member key (written (list K) (list_cell f xs)) no_members
unfolding row_given
list_given key K f [] e = absurd cc
list_given key K f (x ∷ xs) e = refl

pub map_given : {A : Type 0} (key : List ℕ) (K : Kind) (f : A → Cell) (es : List (String Global × A)) → (length es == 0) ≡ false
    → row_given key (default empty_map) (map K) (map_cell f es) ≡ member key (written (map K) (map_cell f es)) no_members
unfolding row_given
map_given key K f [] e = absurd cc
map_given key K f (x ∷ xs) e = refl

pub values_given : {A : Type 0} (key : List ℕ) (K : Kind) (f : A → Cell) (xs : List A) → (length xs == 0) ≡ false
    → row_given key (default empty_list) (values K) (list_cell f xs) ≡ member key (written (values K) (list_cell f xs)) no_members
unfolding row_given
values_given key K f [] e = absurd cc
values_given key K f (x ∷ xs) e = refl

-- ---- what is left out, or given, is the row

module _ {S : Type 0} (Adds : S → S → Members → Type 0) (Tests : S → S → Type 0 → Type 0 → Type 0) {A : Type 0} (key : List ℕ) (K : Kind) (f : A → Cell) (a b : S) where
  pub list_gives : (xs : List A) → (length xs == 0) ≡ false → Took Adds Tests (member key (written (list K) (list_cell f xs)) no_members) (IsPlain (list K) (list_cell f xs)) (IsStored (list K) (list_cell f xs)) a b
      → GivesRow Adds Tests key (default empty_list) (list K) (list_cell f xs) a b
  unfolding GivesRow
  list_gives xs some h = rw (list_given key K f xs some) h

  pub values_gives : (xs : List A) → (length xs == 0) ≡ false → Took Adds Tests (member key (written (values K) (list_cell f xs)) no_members) (IsPlain (values K) (list_cell f xs)) (IsStored (values K) (list_cell f xs)) a b
      → GivesRow Adds Tests key (default empty_list) (values K) (list_cell f xs) a b
  unfolding GivesRow
  values_gives xs some h = rw (values_given key K f xs some) h

  pub map_gives : (es : List (String Global × A)) → (length es == 0) ≡ false → Took Adds Tests (member key (written (map K) (map_cell f es)) no_members) (IsPlain (map K) (map_cell f es)) (IsStored (map K) (map_cell f es)) a b
      → GivesRow Adds Tests key (default empty_map) (map K) (map_cell f es) a b
  unfolding GivesRow
  map_gives es some h = rw (map_given key K f es some) h

module _ {S : Type 0} (Adds : S → S → Members → Type 0) (Tests : S → S → Type 0 → Type 0 → Type 0) (key : List ℕ) (a b : S) where
  pub text_left : (s usual : List ℕ) → bytes_eq s usual ≡ true → Took Adds Tests no_members ⊤ (IsUtf8 s) a b → GivesRow Adds Tests key (default (text usual)) text_kind (text s) a b
  unfolding GivesRow row_given
  text_left s usual same h = rw same h

  pub text_gives : (s usual : List ℕ) → bytes_eq s usual ≡ false → Took Adds Tests (member key (string s) no_members) ⊤ (IsUtf8 s) a b → GivesRow Adds Tests key (default (text usual)) text_kind (text s) a b
  unfolding GivesRow row_given written
  text_gives s usual other h = rw other h
