use Rattle.std.proofs.Common.{length}
use Rattle.sentry_c.specs.Mending.{AddsNotes, noted}
use Rattle.sentry_c.specs.declared.mending.Notes.{Notes}
use Rattle.sentry_c.proofs.mending.push_items.Given as goal

-- what adds the notes on the items that are left from here on, adds all
abbrev pub invariant-loop-item : goal.invariant-loop-item
invariant-loop-item l = (last : Notes) → AddsNotes l.most l.notes last (noted l.left) → AddsNotes l.most l.initial.notes last (noted l.items)

abbrev pub decreases-loop-item : goal.decreases-loop-item
decreases-loop-item l = length l.left
