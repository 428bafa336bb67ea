use Rattle.std.proofs.Common.{◌≡◌, ◌≤◌, ◌++◌, length}
use Rattle.sentry_places.specs.Spliced.{AreInOrder, spliced}
use Rattle.sentry_mending.specs.MendedItems.{all_notes}
use Rattle.sentry_mending.proofs.mending.splice_items.Given as goal

-- what stands in the text, and what the items left put behind it, is the whole
abbrev pub invariant-loop-item : goal.invariant-loop-item
invariant-loop-item l =
    (l.at ≤ length l.bytes)
    × (AreInOrder l.at (all_notes l.left) l.bytes → AreInOrder 0 (all_notes l.items) l.bytes)
    × (l.text.items ++ spliced l.at (all_notes l.left) l.bytes ≡ spliced 0 (all_notes l.items) l.bytes)

abbrev pub decreases-loop-item : goal.decreases-loop-item
decreases-loop-item l = length l.left
