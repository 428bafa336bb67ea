use Rattle.std.proofs.Common.{◌≤◌, arith, length, map}
use Rattle.std.proofs.lemmas.Result.{err_from_is_err_and}
use Rattle.sentry_framing.specs.View.{frame_of}
use Rattle.sentry_making.proofs.Framed.{all_done, all_items, alike_more, made_of, not_all, whole_more}
use Rattle.sentry_making.proofs.making.make_envelope.Goals as goal

pub returns-in_err-push_item-clause-item_fault : goal.returns-in_err-push_item-clause-item_fault
returns-in_err-push_item-clause-item_fault c =
    let p = err_from_is_err_and c.from_residual-in_err-push_item.result c.from_residual-in_err-push_item.ensures.1 in
    λ is are. not_all c.args.items.now c.loop-item.item-index _ c.loop-item-test.true (map frame_of c.args.items.now) c.loop-item.invariant.are (c.in_err-push_item.ensures.fault (λ oom. cc)).1 are

pub loop-item-preserved : goal.loop-item-preserved
loop-item-preserved c =
    let items = c.args.items.now in
    let inv = c.loop-item.invariant in
    record {
      whole = whole_more items c.loop-item.item-index _ c.loop-item-test.true (map frame_of items) c.loop-item.text.items _ _ inv.whole c.in_ok-push_item.ensures.ok;
      are = alike_more items c.loop-item.item-index _ c.loop-item-test.true (map frame_of items) inv.are c.in_ok-push_item.ensures.item;
    }

pub returns-clause-frames : goal.returns-clause-frames
returns-clause-frames c =
    let items = c.args.items.now in
    let inv = c.loop-item.invariant in
    let end : length items ≤ c.loop-item.item-index = omega (arith, c.loop-item-test.false) in
    made_of c.args.header.now c.loop-item.text.items (map frame_of items) (all_done items c.loop-item.item-index c.loop-item.text.items _ end inv.whole) c.in_ok-check_line.ensures.ok (all_items items c.loop-item.item-index end inv.are)
