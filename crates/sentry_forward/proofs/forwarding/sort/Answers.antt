use Rattle.std.proofs.Common.{rules, [], refl, sym, ◌∙◌}
use Rattle.std.proofs.lemmas.List.{nil_from_length}
use Rattle.std.specs.Vec.Iter.{into_iter_items}
use Rattle.sentry_forward.proofs.Sorting.{next_is, fits, run_more, next_stays, next_goes, last_step}
use Rattle.sentry_forward.specs.View.{joined_parts}
use Rattle.sentry_forward.proofs.forwarding.sort.Goals as goal

pub split_at-requires : goal.split_at-requires
split_at-requires c =
    let inv = c.loop-frame.invariant in
    fits _ _ _ _ _ inv.whole (rw c.in-Some.ensures.steps.0 at inv.follow) refl

pub loop-frame-preserved-then-stays : goal.loop-frame-preserved-then-stays
loop-frame-preserved-then-stays c =
    let inv = c.loop-frame.invariant in
    let follow = rw c.in-Some.ensures.steps.0 at inv.follow in
    record {
      whole = run_more _ _ _ _ _ inv.whole follow c.split_at.ensures.back;
      follow = next_is _ _ _ _ _ inv.whole follow c.split_at.ensures.back;
      answered = search rules;
      room = search rules;
      room_dropped = search rules;
      goes_on = λ text gone rest.
          inv.goes_on text gone (rw c.in-Some.ensures.steps.0 (next_stays c.args.orphaned c.in-Some.frame _ c.split_answer-answer.result.0 _ _ c.split_answer-answer.ensures c.loop-frame.parts.items _ _ _ c.loop-frame.dropped.items text gone inv.whole follow c.split_at.ensures.back c.if-stays.ensures rest));
    }

pub loop-frame-preserved-then-stays-2 : goal.loop-frame-preserved-then-stays-2
loop-frame-preserved-then-stays-2 c =
    let inv = c.loop-frame.invariant in
    let follow = rw c.in-Some.ensures.steps.0 at inv.follow in
    record {
      whole = run_more _ _ _ _ _ inv.whole follow c.split_at.ensures.back;
      follow = next_is _ _ _ _ _ inv.whole follow c.split_at.ensures.back;
      answered = search rules;
      room = search rules;
      room_dropped = search rules;
      goes_on = λ text gone rest.
          inv.goes_on text gone (rw c.in-Some.ensures.steps.0 (next_stays c.args.orphaned c.in-Some.frame _ c.split_answer-answer.result.0 _ _ c.split_answer-answer.ensures c.loop-frame.parts.items _ _ _ c.loop-frame.dropped.items text gone inv.whole follow c.split_at.ensures.back c.if-stays.ensures rest));
    }

pub loop-frame-preserved : goal.loop-frame-preserved
loop-frame-preserved c =
    let inv = c.loop-frame.invariant in
    let follow = rw c.in-Some.ensures.steps.0 at inv.follow in
    let pushed = rw c.unwrap.ensures at c.push.ensures.items in
    let goes = rw c.unwrap-else-stays.ensures at c.push-else-stays.ensures.items in
    record {
      whole = ([], refl);
      follow = next_is _ _ _ _ _ inv.whole follow c.split_at.ensures.back;
      answered = search rules;
      room = search rules;
      room_dropped = search rules;
      goes_on = λ text gone rest.
          inv.goes_on text gone (rw c.in-Some.ensures.steps.0 (next_goes c.args.orphaned c.in-Some.frame _ c.split_answer-answer.result.0 _ _ c.split_answer-answer.ensures c.loop-frame.parts.items _ _ _ c.loop-frame.dropped.items text gone inv.whole follow c.split_at.ensures.back _ _ _ pushed refl goes c.if-stays.ensures rest));
    }

pub returns-clause-sorted : goal.returns-clause-sorted
returns-clause-sorted c =
    let inv = c.loop-frame.invariant in
    let iterator = c.loop-frame.frame-iterator in
    let none = nil_from_length (into_iter_items iterator) (sym iterator.rest.ok.0 ∙ c.in-None.ensures.steps.0) in
    let nil = rw none at inv.follow in
    let pushed = rw c.unwrap-2.ensures at c.push-2.ensures.items in
    inv.goes_on (joined_parts c.push-2.new.self.items) c.loop-frame.dropped.items (rw none (last_step _ _ _ _ _ _ _ pushed refl nil))
