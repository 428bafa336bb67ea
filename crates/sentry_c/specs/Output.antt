-- Texts in the caller's room.
use Rattle.std.specs.Prelude.{◌≡◌, ◌<◌, ◌≤◌, ◌++◌, ℕ, List, length, drop, take}
use Rattle.std.specs.List.{AllZip}

-- a text of which P holds stands at the front of the room, whose rest is as it was, and its length
-- is told
pub record Puts (P : List ℕ → Type 0) (old new : List ℕ) (told : ℕ) : Type 0 where
  pub text : List ℕ
  pub meant : P text
  pub fits : length text ≤ length old
  pub put : new ≡ text ++ drop (length text) old
  pub length_told : told ≡ length text

-- a text of which P holds is longer than the room, and its length is told
pub record IsTooLong (P : List ℕ → Type 0) (old : List ℕ) (told : ℕ) : Type 0 where
  pub text : List ℕ
  pub meant : P text
  pub longer : length old < length text
  pub length_told : told ≡ length text

-- Rows stand at the front of a table, whose rest is as it was, and say one by one what R asks of
-- the first of these, as many as there is room for.
pub record PutsRows {A B : Type 0} (R : A → B → Type 0) (all : List B) (old new : List A) : Type 0 where
  pub rows : List A
  pub each : AllZip R rows (take (length old) all)
  pub put : new ≡ rows ++ drop (length rows) old
