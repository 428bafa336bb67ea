-- What a write does to a writer's buffer.
use Rattle.std.specs.Prelude.{◌≡◌, ℕ, ◌+◌, ◌<◌, ◌≤◌, List, ◌++◌, length, Result, MatchResult}
use Rattle.json.specs.Filled.{Filled}

-- the bytes are appended, and take no more room than their own
pub record Appends (old new : Filled) (bytes : List ℕ) : Type 0 where
  pub items : new.items ≡ old.items ++ bytes
  pub room : old.spare ≤ new.spare + length bytes

-- nothing is appended, since less than this room was spare
pub record Refuses (old new : Filled) (room : ℕ) : Type 0 where
  pub items : new.items ≡ old.items
  pub kept : old.spare ≤ new.spare
  pub missing : old.spare < room

-- the bytes are appended whole, or not at all where less than this room was spare
abbrev pub Puts : {E : Type 0} → Result (Unit {0}) E → Filled → Filled → List ℕ → ℕ → Type 0
Puts r old new bytes room = MatchResult r (λ _. Appends old new bytes) (λ _. Refuses old new room)
