use Rattle.std.proofs.Common.{◌≢◌, [], true≢false, subst, sym, inl, inr}
use Rattle.std.proofs.lemmas.Result.{err_from_is_err_and}
use Rattle.sentry_envelope.specs.EnvelopeFault.{BodyIsAtFault}
use Rattle.sentry_envelope.specs.SentryProfile.{profile}
use Rattle.sentry_framing.specs.View.{frame_of}
use Rattle.sentry_items.specs.Texts.{bytes_of}
use Rattle.sentry_moments.specs.Moments.{moment_cell}
use Rattle.sentry_envelope.proofs.Rewriting.{frame_fault, more_written, none_written, payload_fault}
use Rattle.sentry_envelope.proofs.rewrite.write_items.Goals as goal

pub loop-answer-init : goal.loop-answer-init
loop-answer-init g c = none_written (moment_cell c.args.now) c.args.frames.now.rest c.args.id.now (bytes_of c.args.text.now)

pub loop-answer-preserved : goal.loop-answer-preserved
loop-answer-preserved g c =
    let first = rw c.in_ok-frame.was at c.in-Some.ensures.frame in
    more_written (moment_cell c.args.now) c.args.frames.now.rest c.loop-answer.frames.rest c.args.id.now c.loop-answer.id (bytes_of c.args.text.now) (bytes_of c.loop-answer.text) c.loop-answer.invariant
    (frame_of c.in_ok-frame.frame) c.next_item_into.new.frames.rest c.write_frame.new.id (bytes_of c.write_frame.new.text) first c.in_ok-write_frame.ensures.ok

pub returns-in_err-frame-clause-err : goal.returns-in_err-frame-clause-err
returns-in_err-frame-clause-err g c =
    let p = err_from_is_err_and c.from_residual.result c.from_residual.ensures.1 in
    let remains : c.loop-answer.frames.rest ≢ [] = λ e. true≢false (c.in-Some.ensures.none.1 e) in
    let fault = rw c.in_err-frame.was at c.in-Some.ensures.fault in
    rw (p.1, p.2) (λ ne. frame_fault (moment_cell c.args.now) c.args.frames.now.rest c.loop-answer.frames.rest c.args.id.now c.loop-answer.id (bytes_of c.args.text.now) (bytes_of c.loop-answer.text) c.loop-answer.invariant _ remains (fault ne))

pub returns-in_err-write_frame-clause-err : goal.returns-in_err-write_frame-clause-err
returns-in_err-write_frame-clause-err g c =
    let p = err_from_is_err_and c.from_residual-in_err-write_frame.result c.from_residual-in_err-write_frame.ensures.1 in
    let remains : c.loop-answer.frames.rest ≢ [] = λ e. true≢false (c.in-Some.ensures.none.1 e) in
    let first = rw c.in_ok-frame.was at c.in-Some.ensures.frame in
    rw (p.1, p.2) (λ ne. elim c.in_err-write_frame.ensures.err [
      | inl is ↦ absurd (ne is)
      | inr refused ↦ subst (BodyIsAtFault profile c.args.frames.now.rest) (sym refused.0)
          (payload_fault (moment_cell c.args.now) c.args.frames.now.rest c.loop-answer.frames.rest c.args.id.now c.loop-answer.id (bytes_of c.args.text.now) (bytes_of c.loop-answer.text) c.loop-answer.invariant (frame_of c.in_ok-frame.frame) c.next_item_into.new.frames.rest remains first refused.1)
    ])
