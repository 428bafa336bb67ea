use Rattle.std.proofs.Common.{List, subst}
use Rattle.sentry_places.specs.declared.note.Note.{Note}
use Rattle.sentry_c.specs.Mending.{AddsNotes, notes_of}
use Rattle.sentry_c.proofs.Rowed.{item_left, no_items_left}
use Rattle.sentry_c.proofs.mending.push_items.Goals as goal

pub loop-item-preserved : goal.loop-item-preserved
loop-item-preserved c = λ last more.
    let item = c.in-Some.item.now in
    c.loop-item.invariant last
    (item_left c.args.most c.loop-item.notes c.push_notes.new.notes c.push_notes-in-Some.new.notes c.push_notes-in-Some-2.new.notes last c.loop-item.left.now c.in-Some.rest.now item c.in-Some.ensures.cases.0
    (subst (λ (list : List Note). AddsNotes c.args.most c.loop-item.notes c.push_notes.new.notes (notes_of item list)) c.deref.ensures.value c.in_ok-push_notes.ensures)
    (subst (λ (list : List Note). AddsNotes c.args.most c.push_notes.new.notes c.push_notes-in-Some.new.notes (notes_of item list)) c.deref-in-Some.ensures.value c.in_ok-push_notes-2.ensures)
    (subst (λ (list : List Note). AddsNotes c.args.most c.push_notes-in-Some.new.notes c.push_notes-in-Some-2.new.notes (notes_of item list)) c.deref-in-Some-2.ensures.value c.in_ok-push_notes-3.ensures) more)

pub returns : goal.returns
returns c = c.loop-item.invariant c.loop-item.notes (no_items_left c.args.most c.loop-item.notes c.loop-item.left.now c.in_default.ensures.cases)
