-- Notes of which each is needed.
use Rattle.std.specs.Prelude.{ℕ, ◌+◌, ◌<◌, List, ◌++◌, take, drop, length}
use Rattle.sentry_places.specs.declared.note.Note.{Note}
use Rattle.sentry_places.specs.Spliced.{spliced}

-- the notes but for the one at this index
abbrev pub without : ℕ → List Note → List Note
without k notes = take k notes ++ drop (k + 1) notes

-- with any one note undone, the text from an index on is refused
abbrev pub AreNeeded : (List ℕ → Type 0) → ℕ → List ℕ → List Note → Type 0
AreNeeded refuses start bytes notes = (k : ℕ) → k < length notes → refuses (spliced start (without k notes) bytes)
