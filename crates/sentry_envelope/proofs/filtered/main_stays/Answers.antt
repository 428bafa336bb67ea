use Rattle.std.proofs.Common.{rules, ◌≡◌, ◌≢◌, ◌&&◌, [], false, true, true≢false, ap, ap₂, subst, sym, ◌∙◌}
use Rattle.sentry_framing.proofs.EnvelopeLine.{same_line}
use Rattle.sentry_framing.specs.View.{frame_of}
use Rattle.sentry_envelope.specs.FilteredText.{is_main_kind}
use Rattle.sentry_envelope.proofs.LeftItems.{IsDecidedBy, all_decide, decided_by, main_found, none_at_end, none_at_fault, one_passed}
use Rattle.sentry_envelope.proofs.filtered.main_stays.Goals as goal
use Rattle.sentry_envelope.proofs.filtered.main_stays.Goals.{else-is_main-via-then-is_main+else-stays, else-is_main-via-else-is_main}

pub loop-answer-init : goal.loop-answer-init
loop-answer-init g c =
    let stays = g.K.KindChoice.stays c.args.choice.now in
    λ body here. subst (IsDecidedBy stays body) (same_line _ _ _ _ _ here.1 c.new-frames.ensures).1 (all_decide stays body)

pub returns-then-stays : goal.returns-then-stays
returns-then-stays g c =
    let stays = g.K.KindChoice.stays c.args.choice.now in
    let first = rw c.in-Ok.is at c.in-Some.ensures.frame in
    let read = rw c.in-Ok.is at c.in-Some.ensures.header in
    let found = main_found stays c.loop-answer.frames.rest (frame_of c.in-Ok.field-0) c.next_item_into.new.frames.rest first c.next_item_into.new.header read (sym c.is_main.ensures ∙ c.if-is_main.true) (sym c.stays.ensures ∙ c.if-stays.true) in
    λ body here. decided_by stays true body c.loop-answer.frames.rest (c.loop-answer.invariant body here) found

pub loop-answer-preserved : goal.loop-answer-preserved
loop-answer-preserved g c =
    let stays = g.K.KindChoice.stays c.args.choice.now in
    let kind = c.next_item_into.new.header.kind in
    let first = rw c.in-Ok.is at c.in-Some.ensures.frame in
    let read = rw c.in-Ok.is at c.in-Some.ensures.header in
    let none : (is_main_kind kind && stays kind) ≡ false = elim c.else-is_main.branch [
      | else-is_main-via-then-is_main+else-stays w ↦ ap₂ (λ a b. a && b) (sym c.is_main.ensures ∙ w.if-is_main.true) (sym w.stays.ensures ∙ w.if-stays.false)
      | else-is_main-via-else-is_main w ↦ ap (λ b. b && stays kind) (sym c.is_main.ensures ∙ w.if-is_main.false)
    ] in
    λ body here. one_passed stays c.loop-answer.frames.rest (frame_of c.in-Ok.field-0) c.next_item_into.new.frames.rest first c.next_item_into.new.header read body (c.loop-answer.invariant body here) none

pub returns-in_default-error : goal.returns-in_default-error
returns-in_default-error g c =
    let stays = g.K.KindChoice.stays c.args.choice.now in
    let remains : c.loop-answer.frames.rest ≢ [] = λ e. true≢false (c.in-Some.ensures.none.1 e) in
    let fault = rw c.in-Err.is at c.in-Some.ensures.fault in
    λ body here. decided_by stays false body c.loop-answer.frames.rest (c.loop-answer.invariant body here) (none_at_fault stays c.loop-answer.frames.rest c.in-Err.error remains (fault c.in_default-error.not-OutOfMemory))

pub returns : goal.returns
returns g c =
    let stays = g.K.KindChoice.stays c.args.choice.now in
    let end : c.loop-answer.frames.rest ≡ [] = search rules in
    λ body here. decided_by stays false body c.loop-answer.frames.rest (c.loop-answer.invariant body here) (none_at_end stays c.loop-answer.frames.rest end)
