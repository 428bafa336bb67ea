-- What a writer got of a text, and when a write fails.
use Rattle.std.specs.Prelude.{◌≡◌, ℕ, ◌<◌, Bool, true, List, ◌++◌, length, Option, Result, Ok, Err, nat_eq, not, ◌&&◌}
use Rattle.std.specs.Io.KnownBytes.{Appends}

-- a write fails by an error, and where it takes none of one or more bytes
abbrev pub write_fails : {E : Type 0} → Result ℕ E → List ℕ → Bool
write_fails (Ok count) bytes = nat_eq count 0 && not (nat_eq (length bytes) 0)
write_fails (Err error) bytes = true

-- the known bytes grow by a beginning of a text that isn't the whole
abbrev pub AppendsFront : Option (List ℕ) → Option (List ℕ) → List ℕ → Type 0
AppendsFront old new text = (front rest : List ℕ) × (text ≡ front ++ rest) × (0 < length rest) × Appends old new front
