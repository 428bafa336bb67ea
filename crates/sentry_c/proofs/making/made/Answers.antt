use Rattle.std.proofs.lemmas.Result.{err_from_is_err_and}
use Rattle.sentry_c.proofs.Joined.{is_made, no_item}
use Rattle.sentry_c.proofs.making.made.Goals as goal

pub returns-in_err-text-clause-item : goal.returns-in_err-text-clause-item
returns-in_err-text-clause-item c = λ is.
    let are = rw c.in-Some.is at c.in_ok-items.ensures in
    let p = err_from_is_err_and c.from_residual-in_err-text.result c.from_residual-in_err-text.ensures.1 in
    no_item c.args.header.now c.args.texts.now c.args.lengths.now c.in-Some.items.items are (rw c.deref.ensures.value at (c.in_err-text.ensures.item_fault (cc)))

pub returns-clause-made : goal.returns-clause-made
returns-clause-made c =
    let are = rw c.in-Some.is at c.in_ok-items.ensures in
    let made = c.in_ok-text.ensures in
    is_made c.args.header.now c.args.texts.now c.args.lengths.now c.in-Some.items.items are c.in_ok-text.text.items made.line (rw c.deref.ensures.value at made.items) (rw c.deref.ensures.value at made.text) (rw c.deref.ensures.value at made.frames)
