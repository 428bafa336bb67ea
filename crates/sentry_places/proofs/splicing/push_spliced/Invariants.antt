use Rattle.std.proofs.Common.{◌≡◌, ◌≤◌, ◌++◌, List, length}
use Rattle.sentry_places.specs.declared.note.Note.{Note}
use Rattle.sentry_places.specs.Spliced.{AreInOrder, spliced}
use Rattle.sentry_places.proofs.splicing.push_spliced.Given as goal

-- whatever notes follow, what stands in the text, and what those left put behind it, is the whole
abbrev pub invariant-loop-note : goal.invariant-loop-note
invariant-loop-note l =
    (l.at ≤ length l.bytes)
    × ((more : List Note) → AreInOrder l.at (l.left ++ more) l.bytes → AreInOrder l.fn.from (l.notes ++ more) l.bytes)
    × ((more : List Note) → l.text.items ++ spliced l.at (l.left ++ more) l.bytes ≡ l.initial.text.items ++ spliced l.fn.from (l.notes ++ more) l.bytes)

abbrev pub decreases-loop-note : goal.decreases-loop-note
decreases-loop-note l = length l.left
