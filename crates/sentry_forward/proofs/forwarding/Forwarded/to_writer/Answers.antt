use Rattle.std.proofs.lemmas.Result.{err_from_is_err_and}
use Rattle.sentry_forward.proofs.Sorting.{part_fails, part_sent}
use Rattle.sentry_forward.proofs.forwarding.Forwarded.to_writer.Goals as goal

pub loop-part-preserved : goal.loop-part-preserved
loop-part-preserved g c =
    let more = rw c.deref-part-items.ensures.value at c.loop-part-test.true in
    let sent = rw c.deref-part-items.ensures.value at c.in_ok-send_plain.ensures.whole in
    part_sent _ _ _ c.args.self.now.parts.items c.loop-part.part-index _ _ more c.loop-part.invariant sent

pub returns-in_err-send_plain-clause-front : goal.returns-in_err-send_plain-clause-front
returns-in_err-send_plain-clause-front g c =
    let p = err_from_is_err_and c.from_residual.result c.from_residual.ensures.1 in
    let more = rw c.deref-part-items.ensures.value at c.loop-part-test.true in
    let failed = rw c.deref-part-items.ensures.value at c.in_err-send_plain.ensures.front in
    rw p.1 (part_fails _ _ _ c.args.self.now.parts.items c.loop-part.part-index _ _ more c.loop-part.invariant failed)
