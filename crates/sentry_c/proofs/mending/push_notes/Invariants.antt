use Rattle.std.proofs.Common.{length}
use Rattle.sentry_c.specs.Mending.{AddsNotes, notes_of}
use Rattle.sentry_c.specs.declared.mending.Notes.{Notes}
use Rattle.sentry_c.proofs.mending.push_notes.Given as goal

-- what adds the notes that are left from here on, adds all
abbrev pub invariant-loop-note : goal.invariant-loop-note
invariant-loop-note l = (last : Notes) → AddsNotes l.most l.notes last (notes_of l.item l.left) → AddsNotes l.most l.initial.notes last (notes_of l.item l.list)

abbrev pub decreases-loop-note : goal.decreases-loop-note
decreases-loop-note l = length l.left
