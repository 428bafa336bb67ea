use Rattle.std.proofs.Common.{rules, arith, ◌++◌}
use Rattle.std.proofs.KnownBytes.{Appends-trans}
use Rattle.std.proofs.lemmas.Result.{err_from_is_err_and, on_err_weaker}
use Rattle.sentry_items.proofs.Texts.{part_comes, end_comes, piece_joins, piece_fails, end_fails}
use Rattle.sentry_items.proofs.text.Text.send_counting.Goals as goal

pub loop-part-preserved : goal.loop-part-preserved
loop-part-preserved g c =
    let so_far = c.loop-part.invariant.sent in
    let part = c.part-item.result in
    let own = part.own.items in
    let comes = part_comes c.args.self.now.parts.items c.loop-part.part-index part _ so_far.0 c.args.self.now.end.items (rw c.deref-part-items.ensures.value at c.loop-part-test.true) (rw c.deref-part-items.ensures.value at c.part-item.is) so_far.1 in
    record {
      no_failure = search rules;
      sent = (
        (so_far.0 ++ own) ++ part.lent.now,
        piece_joins _ (so_far.0 ++ own) part.lent.now _ (piece_joins _ so_far.0 own _ comes),
        Appends-trans _ _ _ (so_far.0 ++ own) part.lent.now (Appends-trans _ _ _ so_far.0 own so_far.2 (rw c.deref.ensures.value at c.in_ok-send_counting.ensures.whole)) c.in_ok-send_counting-2.ensures.whole,
      );
    }

pub returns-in_err-send_counting-clause-front : goal.returns-in_err-send_counting-clause-front
returns-in_err-send_counting-clause-front g c =
    let so_far = c.loop-part.invariant.sent in
    let part = c.part-item.result in
    let comes = part_comes c.args.self.now.parts.items c.loop-part.part-index part _ so_far.0 c.args.self.now.end.items (rw c.deref-part-items.ensures.value at c.loop-part-test.true) (rw c.deref-part-items.ensures.value at c.part-item.is) so_far.1 in
    let failed = err_from_is_err_and c.from_residual.result c.from_residual.ensures.1 in
    rw failed.1 (piece_fails _ _ _ _ so_far.0 part.own.items _ comes so_far.2 (rw c.deref.ensures.value at c.in_err-send_counting.ensures.front))

pub returns-in_err-send_counting-2-clause-front : goal.returns-in_err-send_counting-2-clause-front
returns-in_err-send_counting-2-clause-front g c =
    let so_far = c.loop-part.invariant.sent in
    let part = c.part-item.result in
    let own = part.own.items in
    let comes = part_comes c.args.self.now.parts.items c.loop-part.part-index part _ so_far.0 c.args.self.now.end.items (rw c.deref-part-items.ensures.value at c.loop-part-test.true) (rw c.deref-part-items.ensures.value at c.part-item.is) so_far.1 in
    let failed = err_from_is_err_and c.from_residual-in_err-send_counting-2.result c.from_residual-in_err-send_counting-2.ensures.1 in
    rw failed.1 (piece_fails _ _ _ _ (so_far.0 ++ own) part.lent.now _ (piece_joins _ so_far.0 own _ comes)
    (Appends-trans _ _ _ so_far.0 own so_far.2 (rw c.deref.ensures.value at c.in_ok-send_counting.ensures.whole)) c.in_err-send_counting-2.ensures.front)

pub returns-clause-front : goal.returns-clause-front
returns-clause-front g c =
    let so_far = c.loop-part.invariant.sent in
    let comes = end_comes c.args.self.now.parts.items c.loop-part.part-index _ so_far.0 c.args.self.now.end.items (omega (arith, rw c.deref-part-items.ensures.value at c.loop-part-test.false)) so_far.1 in
    on_err_weaker c.send_counting-2.result (end_fails _ _ _ _ so_far.0 c.args.self.now.end.items comes so_far.2) (rw c.deref-2.ensures.value at c.send_counting-2.ensures.front)
