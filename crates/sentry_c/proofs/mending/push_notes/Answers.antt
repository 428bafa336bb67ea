use Rattle.sentry_c.proofs.Rowed.{no_notes_left, note_left}
use Rattle.sentry_c.proofs.mending.push_notes.Goals as goal

pub loop-note-preserved : goal.loop-note-preserved
loop-note-preserved c = λ last more.
    c.loop-note.invariant last
    (note_left c.args.most c.args.item.now c.loop-note.notes c.push_note.new.notes last c.loop-note.left.now c.in-Some.rest.now c.in-Some.note.now c.in-Some.ensures.cases.0 c.in_ok-push_note.ensures more)

pub returns : goal.returns
returns c = c.loop-note.invariant c.loop-note.notes (no_notes_left c.args.most c.args.item.now c.loop-note.notes c.loop-note.left.now c.in_default.ensures.cases)
