use Rattle.std.proofs.Common.{◌≡◌, ◌≤◌, ◌++◌, length}
use Rattle.sentry_places.specs.Spliced.{AreInOrder, spliced}
use Rattle.sentry_places.proofs.splicing.push_rest.Given as goal

-- what stands in the text, and what the notes left put behind it, is the whole
abbrev pub invariant-loop-note : goal.invariant-loop-note
invariant-loop-note l =
    (l.at ≤ length l.bytes)
    × (AreInOrder l.at l.left l.bytes → AreInOrder l.fn.from l.notes l.bytes)
    × (l.text.items ++ spliced l.at l.left l.bytes ≡ l.initial.text.items ++ spliced l.fn.from l.notes l.bytes)

abbrev pub decreases-loop-note : goal.decreases-loop-note
decreases-loop-note l = length l.left
