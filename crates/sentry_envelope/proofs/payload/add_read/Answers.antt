use Rattle.std.proofs.Common.{rules, subst}
use Rattle.sentry_framing.specs.View.{frame_of}
use Rattle.sentry_tables.specs.Reading.{ReadsTextAt}
use Rattle.sentry_envelope.proofs.ItemReads.{value_added, value_refused}
use Rattle.sentry_envelope.proofs.payload.add_read.Goals as goal

pub returns-in-Err-clause-err : goal.returns-in-Err-clause-err
returns-in-Err-clause-err g c = λ now read.
    let refused = value_refused (frame_of c.args.frame.now) g.T.Payload.item_kind g.T.Member.kind c.requires.of_kind c.requires.fits now in
    let none = subst (ReadsTextAt now g.T.Member.kind g.T.Member.cell_of c.args.frame.now.payload.now) c.in-Err.is read in
    search rules

pub returns-clause-ok : goal.returns-clause-ok
returns-clause-ok g c = λ now read.
    let shown = subst (ReadsTextAt now g.T.Member.kind g.T.Member.cell_of c.args.frame.now.payload.now) c.in-Ok.is read in
    value_added (frame_of c.args.frame.now) g.T.Payload.item_kind g.T.Member.kind c.requires.of_kind c.requires.fits now _ _ _ shown (rw (c.requires.held c.in-Ok.value) at c.in_ok-push_to.ensures)
