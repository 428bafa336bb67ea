use Rattle.std.proofs.Common.{rules, ◌≡◌, ◌≢◌, ◌||◌, [], false, true, true≢false, refl, subst, sym, ap, inl, inr, ◌∙◌}
use Rattle.std.proofs.lemmas.Bool.{and_parts}
use Rattle.std.proofs.lemmas.Result.{err_from_is_err_and}
use Rattle.sentry_envelope.specs.EnvelopeFault.{BodyIsAtFault}
use Rattle.sentry_envelope.specs.SentryProfile.{profile}
use Rattle.sentry_envelope.specs.HeaderFields.{given_id}
use Rattle.sentry_framing.specs.View.{frame_of}
use Rattle.sentry_items.specs.Texts.{bytes_of}
use Rattle.sentry_moments.specs.Moments.{moment_cell}
use Rattle.sentry_envelope.proofs.LeftItems.{IsLeftSoFar, SoFar, all_left, frame_fault, item_left, item_taken, more_settled, none_read, nothing_asked, or_right, payload_fault, still_settled, turned}
use Rattle.sentry_envelope.proofs.filtered.read_left.Goals as goal

pub loop-answer-init : goal.loop-answer-init
loop-answer-init g c =
    let stays = g.K.KindChoice.stays c.args.choice.now in
    let empty : c.in_ok-out.out.items ≡ [] = search rules in
    let none : c.new-losses.result.items ≡ [] = search rules in
    (none_read stays true (moment_cell c.args.now) c.args.frames.now.rest _ _ (c.new-text.ensures ∙ empty) none, nothing_asked stays c.args.bytes.now _ refl)

pub returns-in_err-frame-clause-err : goal.returns-in_err-frame-clause-err
returns-in_err-frame-clause-err g c =
    let p = err_from_is_err_and c.from_residual-in_err-frame.result c.from_residual-in_err-frame.ensures.1 in
    let remains : c.loop-answer.frames.rest ≢ [] = λ e. true≢false (c.in-Some.ensures.none.1 e) in
    let fault = rw c.in_err-frame.was at c.in-Some.ensures.fault in
    rw (p.1, p.2) (λ ne. frame_fault _ _ _ _ _ _ c.loop-answer.invariant.0 _ remains (fault ne))

pub returns-in_err-write_frame-clause-err : goal.returns-in_err-write_frame-clause-err
returns-in_err-write_frame-clause-err g c =
    let p = err_from_is_err_and c.from_residual-in_err-write_frame.result c.from_residual-in_err-write_frame.ensures.1 in
    let remains : c.loop-answer.frames.rest ≢ [] = λ e. true≢false (c.in-Some.ensures.none.1 e) in
    let first = rw c.in_ok-frame.was at c.in-Some.ensures.frame in
    rw (p.1, p.2) (λ ne. elim c.in_err-write_frame.ensures.err [
      | inl is ↦ absurd (ne is)
      | inr refused ↦ subst (BodyIsAtFault profile c.args.frames.now.rest) (sym refused.0)
          (payload_fault _ _ _ _ _ _ c.loop-answer.invariant.0 (frame_of c.in_ok-frame.frame) c.next_item_into.new.frames.rest remains first refused.1)
    ])

pub returns-in_err-add_losses-clause-err : goal.returns-in_err-add_losses-clause-err
returns-in_err-add_losses-clause-err g c =
    let p = err_from_is_err_and c.from_residual-in_err-add_losses.result c.from_residual-in_err-add_losses.ensures.1 in
    let remains : c.loop-answer.frames.rest ≢ [] = λ e. true≢false (c.in-Some.ensures.none.1 e) in
    let first = rw c.in_ok-frame.was at c.in-Some.ensures.frame in
    rw (p.1, p.2) (λ ne. elim c.in_err-add_losses.ensures.err [
      | inl is ↦ absurd (ne is)
      | inr refused ↦ subst (BodyIsAtFault profile c.args.frames.now.rest) (sym refused.0)
          (payload_fault _ _ _ _ _ _ c.loop-answer.invariant.0 (frame_of c.in_ok-frame.frame) c.next_item_into.new.frames.rest remains first refused.1)
    ])

pub loop-answer-preserved-then-is_left : goal.loop-answer-preserved-then-is_left
loop-answer-preserved-then-is_left g c =
    let stays = g.K.KindChoice.stays c.args.choice.now in
    let first = rw c.in_ok-frame.was at c.in-Some.ensures.frame in
    let read = rw c.in_ok-frame.was at c.in-Some.ensures.header in
    let look = c.in_ok-beside.ensures in
    let so_far = turned stays _ _ _ _ _ c.loop-answer.invariant.0 c.in_ok-beside.beside (λ there. look.settled (or_right c.loop-answer.main c.loop-answer.attached there)) look.falls in
    let mains = ap (λ b. c.loop-answer.main || b) c.is_main-main.ensures in
    let attached = ap (λ b. c.loop-answer.attached || b) c.is_attachment-attached.ensures in (
      item_left _ _ _ _ _ _ so_far (frame_of c.in_ok-frame.frame) c.next_item_into.new.frames.rest first c.next_item_into.new.header read
          (sym c.is_left.ensures ∙ c.if-is_left.true) c.loop-answer.id c.write_frame.new.id refl _ c.in_ok-write_frame.ensures.ok refl refl refl mains attached,
      more_settled stays _ _ _ _ c.loop-answer.invariant.1 look.falls look.fell c.next_item_into.new.header.kind (and_parts _ _ (sym c.is_left.ensures ∙ c.if-is_left.true)).1 look.asked _ mains attached,
    )

pub loop-answer-preserved : goal.loop-answer-preserved
loop-answer-preserved g c =
    let stays = g.K.KindChoice.stays c.args.choice.now in
    let first = rw c.in_ok-frame.was at c.in-Some.ensures.frame in
    let read = rw c.in_ok-frame.was at c.in-Some.ensures.header in
    let look = c.in_ok-beside.ensures in
    let so_far = turned stays _ _ _ _ _ c.loop-answer.invariant.0 c.in_ok-beside.beside (λ there. look.settled (or_right c.loop-answer.main c.loop-answer.attached there)) look.falls in (
      item_taken _ _ _ _ _ _ so_far (frame_of c.in_ok-frame.frame) c.next_item_into.new.frames.rest first c.next_item_into.new.header read
          (sym c.is_left.ensures ∙ c.if-is_left.false) _ c.in_ok-add_losses.ensures.ok,
      still_settled stays _ _ _ _ c.loop-answer.invariant.1 look.falls look.fell _ refl refl,
    )

pub returns-clause-ok : goal.returns-clause-ok
returns-clause-ok g c =
    let stays = g.K.KindChoice.stays c.args.choice.now in
    let end : c.loop-answer.frames.rest ≡ [] = search rules in
    let left : SoFar = record { text = bytes_of c.loop-answer.text; id = given_id c.loop-answer.id; losses = c.loop-answer.losses.items; any = c.loop-answer.any; main = c.loop-answer.main; attached = c.loop-answer.attached } in
    let read = subst (λ r. IsLeftSoFar stays c.loop-answer.beside (moment_cell c.args.now) c.args.frames.now.rest r left) end c.loop-answer.invariant.0 in
    all_left stays c.args.bytes.now c.args.frames.now.rest (moment_cell c.args.now) c.loop-answer.beside left c.requires read c.loop-answer.invariant.1 _ refl refl refl refl
