use Rattle.std.proofs.Common.{arith, refl}
use Rattle.sentry_items.proofs.Texts.{pieces_bytes, part_comes, end_comes, next_piece, last_piece}
use Rattle.sentry_items.proofs.text.Text.pieces.Goals as goal

pub loop-part-preserved : goal.loop-part-preserved
loop-part-preserved c =
    let part = c.part-item.result in
    let comes = part_comes c.args.self.now.parts.items c.loop-part.part-index part _ (pieces_bytes c.loop-part.pieces.items) c.args.self.now.end.items (rw c.deref-part-items.ensures.value at c.loop-part-test.true) (rw c.deref-part-items.ensures.value at c.part-item.is) c.loop-part.invariant in
    next_piece c.push.new.self.items c.push-in-loop-part.new.self.items part.lent _ part.lent.now _ c.in_ok-push-2.ensures.items refl
    (next_piece c.loop-part.pieces.items c.push.new.self.items c.as_slice.result _ part.own.items _ c.in_ok-push.ensures.items c.as_slice.ensures.value comes)

pub returns : goal.returns
returns c =
    let comes = end_comes c.args.self.now.parts.items c.loop-part.part-index _ (pieces_bytes c.loop-part.pieces.items) c.args.self.now.end.items (omega (arith, rw c.deref-part-items.ensures.value at c.loop-part-test.false)) c.loop-part.invariant in
    last_piece c.loop-part.pieces.items c.push-2.new.self.items c.as_slice-2.result _ c.args.self.now.end.items c.in_ok-push-3.ensures.items c.as_slice-2.ensures.value comes
