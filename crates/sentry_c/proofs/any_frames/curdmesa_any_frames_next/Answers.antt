use Rattle.std.proofs.Common.{rules, ◌≡◌, ◌∙◌, ◌++◌, ◌-◌, ap, length, sym, subst}
use Rattle.std.specs.Cow.{cow_str_bytes}
use Rattle.sentry_framing.specs.View.{frame_of}
use Rattle.sentry_c.specs.AnyFrames.{IsItemFault}
use Rattle.sentry_c.proofs.Items.{items_end, next_frame, rest_is_dropped}
use Rattle.sentry_c.proofs.any_frames.curdmesa_any_frames_next.Goals as goal

pub returns-in-Err-clause-fault : goal.returns-in-Err-clause-fault
returns-in-Err-clause-fault c = λ x is ne.
    let same : x ≡ c.in-Err.error = c.status_of_envelope_error.ensures.only x (search rules) in
    subst (IsItemFault c.args.bytes.now c.args.offset.now) (sym same) (c.in-Err.ensures.fault (λ e. ne (same ∙ e)))

pub returns-then-not-deliver-clause-no_room : goal.returns-then-not-deliver-clause-no_room
returns-then-not-deliver-clause-no_room c = λ _.
    let begins = rw c.in-Ok-Some.field-0-is at c.in-Ok-Some.ensures.body in
    let found = c.in-Ok.found in
    let word : c.as_bytes.result.now ≡ cow_str_bytes found.1.word = c.as_bytes.ensures.value ∙ c.as_str-word.ensures.value in
    let next = next_frame c.args.bytes.now c.args.offset.now c.in-Ok-Some.body.now (frame_of found.0) found.2.now begins c.in-Ok.ensures.frame _ _ c.in-Ok.ensures.header in
    record {
      text = c.as_bytes.result.now;
      meant = (c.in-Ok-Some.body.now, frame_of found.0, length c.args.bytes.now - length found.2.now, rw word next);
      longer = search rules;
      length_told = search rules;
    }

pub placed_item-requires-clause-ends : goal.placed_item-requires-clause-ends
placed_item-requires-clause-ends c = items_end _ _ _ (rw c.in-Ok-Some.field-0-is at c.in-Ok-Some.ensures.body)

pub returns-clause-found : goal.returns-clause-found
returns-clause-found c = λ _.
    let begins = rw c.in-Ok-Some.field-0-is at c.in-Ok-Some.ensures.body in
    let found = c.in-Ok.found in
    let body = c.in-Ok-Some.body.now in
    let word : c.as_bytes.result.now ≡ cow_str_bytes found.1.word = c.as_bytes.ensures.value ∙ c.as_str-word.ensures.value in
    let next = next_frame c.args.bytes.now c.args.offset.now body (frame_of found.0) found.2.now begins c.in-Ok.ensures.frame _ _ c.in-Ok.ensures.header in
    let dropped = rest_is_dropped c.args.bytes.now c.args.offset.now body (frame_of found.0) found.2.now begins c.in-Ok.ensures.frame in
    let placed = c.placed_item.ensures.placed in
    record {
      text = c.as_bytes.result.now;
      meant = record {
        body = body;
        frame = frame_of found.0;
        is = rw word next;
        item = placed.0;
        parts = placed.1 ∙ ap (λ rest. placed.0 ++ rest) (sym dropped);
        placed = placed.2;
        kind = rw c.as_bytes.ensures.value (c.placed_item.ensures.kind ∙ c.number_of_word.ensures);
      };
      fits = search rules;
      put = search rules;
      length_told = search rules;
    }
