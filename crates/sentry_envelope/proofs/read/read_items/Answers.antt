use Rattle.std.proofs.Common.{◌≢◌, [], true≢false, subst, sym, inl, inr}
use Rattle.std.proofs.lemmas.Result.{err_from_is_err_and}
use Rattle.sentry_envelope.specs.EnvelopeFault.{BodyIsAtFault}
use Rattle.sentry_moments.specs.Moments.{moment_cell}
use Rattle.sentry_envelope.specs.SentryProfile.{profile}
use Rattle.sentry_framing.specs.View.{frame_of}
use Rattle.sentry_envelope.proofs.ItemReads.{framing_at_fault, payload_at_fault, one_more}
use Rattle.sentry_envelope.proofs.read.read_items.Goals as goal

pub returns-in_err-frame-clause-err : goal.returns-in_err-frame-clause-err
returns-in_err-frame-clause-err g c =
    let p = err_from_is_err_and c.from_residual-in_err-frame.result c.from_residual-in_err-frame.ensures.1 in
    let remains : c.loop-answer.frames.rest ≢ [] = λ e. true≢false (c.in-Some.ensures.none.1 e) in
    let fault = rw c.in_err-frame.was at c.in-Some.ensures.fault in
    rw (p.1, p.2) (λ ne. framing_at_fault (moment_cell c.args.now) c.args.frames.now.rest c.loop-answer.items.items c.loop-answer.frames.rest c.loop-answer.invariant _ remains (fault ne))

pub returns-in_err-add_item-clause-err : goal.returns-in_err-add_item-clause-err
returns-in_err-add_item-clause-err g c =
    let p = err_from_is_err_and c.from_residual-in_err-add_item.result c.from_residual-in_err-add_item.ensures.1 in
    let remains : c.loop-answer.frames.rest ≢ [] = λ e. true≢false (c.in-Some.ensures.none.1 e) in
    let first = rw c.in_ok-frame.was at c.in-Some.ensures.frame in
    rw (p.1, p.2) (λ ne. elim c.in_err-add_item.ensures.err [
      | inl is ↦ absurd (ne is)
      | inr refused ↦ subst (BodyIsAtFault profile c.args.frames.now.rest) (sym refused.0)
          (payload_at_fault (moment_cell c.args.now) c.args.frames.now.rest c.loop-answer.items.items c.loop-answer.frames.rest c.loop-answer.invariant (frame_of c.in_ok-frame.frame) c.next_item_into.new.frames.rest remains first refused.1)
    ])

pub loop-answer-preserved : goal.loop-answer-preserved
loop-answer-preserved g c =
    let first = rw c.in_ok-frame.was at c.in-Some.ensures.frame in
    one_more (moment_cell c.args.now) c.args.frames.now.rest c.loop-answer.items.items c.loop-answer.frames.rest c.loop-answer.invariant (frame_of c.in_ok-frame.frame) c.next_item_into.new.frames.rest
    c.add_item.new.items.items first c.in_ok-add_item.ensures.ok
