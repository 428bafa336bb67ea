use Rattle.std.proofs.Common.{rules, [], ◌∙◌, append-nil, refl}
use Rattle.std.proofs.lemmas.List.Elements.{All-push}
use Rattle.sentry_forward.specs.View.{IsPlaced}
use Rattle.sentry_forward.proofs.Sorting.{named_more, stand_more, pieces_more}
use Rattle.sentry_forward.proofs.forwarding.read_frames.Goals as goal

pub loop-alloc-preserved : goal.loop-alloc-preserved
loop-alloc-preserved c =
    let inv = c.loop-alloc.invariant in
    let pushed = rw c.in_ok-push.was at c.push.ensures.items in
    let first = rw c.in_ok-frame.was at c.in-Some.ensures.frame in
    let bytes = rw c.in_ok-frame.was at c.in-Some.ensures.whole in
    let header = rw c.in_ok-frame.was at c.in-Some.ensures.header in
    let placed = rw (c.in_ok-frame.was, inv.bytes) at c.in-Some.ensures.placed in
    record {
      bytes = c.in-Some.ensures.bytes ∙ inv.bytes;
      bounded = search rules;
      named = rw pushed (named_more _ _ inv.named header);
      placed = rw pushed (All-push (IsPlaced _) _ _ inv.placed placed);
      stand = rw pushed (stand_more _ _ _ _ _ inv.stand first);
      goes_on = rw pushed (pieces_more _ _ _ _ _ inv.goes_on first bytes);
    }

pub returns-in_default-clause-pieces : goal.returns-in_default-clause-pieces
returns-in_default-clause-pieces c = λ none. rw append-nil at (c.loop-alloc.invariant.goes_on [] (c.in_default.ensures.none.0 refl))

pub returns-clause-pieces : goal.returns-clause-pieces
returns-clause-pieces c = λ none. rw append-nil at (c.loop-alloc.invariant.goes_on [] none)
