-- Bytes with other bytes at the places of notes.
use Rattle.std.specs.Prelude.{ℕ, ◌≤◌, List, [], ◌∷◌, ◌++◌, length, drop, slice_range}
use Rattle.sentry_places.specs.declared.note.Note.{Note}

-- the notes' ranges come one behind the other, from this index on, within the bytes
abbrev pub AreInOrder : ℕ → List Note → List ℕ → Type 0
AreInOrder at [] bytes = at ≤ length bytes
AreInOrder at (n ∷ ns) bytes = (at ≤ n.start) × (n.start ≤ n.end) × AreInOrder n.end ns bytes

-- the bytes from this index on, with what the notes put in the place of their ranges
abbrev pub spliced : ℕ → List Note → List ℕ → List ℕ
spliced at [] bytes = drop at bytes
spliced at (n ∷ ns) bytes = slice_range bytes at n.start ++ (n.instead.items ++ spliced n.end ns bytes)
