use Rattle.std.proofs.Common.{◌==◌, lit<, subst, sym, List, ℕ}
use Rattle.std.specs.List.{slice_split}
use Rattle.std.proofs.lemmas.Iterator.Splits.{YieldsList-from_str_split}
use Rattle.sentry_limits.specs.RateLimits.{AreHeld}
use Rattle.sentry_limits.proofs.Held.{held_more, held_none, next_text, no_text}
use Rattle.sentry_limits.proofs.rate_limits.RateLimits.update.Goals as goal

pub loop-limit-init : goal.loop-limit-init
loop-limit-init c =
    rw c.into_iter-limit-iterator.ensures.into_iter_gives (
      slice_split (λ b. b == 44) c.args.header.now,
      YieldsList-from_str_split 44 c.args.header.now (lit< tt) c.split-limit-items.ensures.text c.split-limit-items.ensures.has_more c.split-limit-items.ensures.pattern,
      λ new h. h,
    )

pub loop-limit-preserved : goal.loop-limit-preserved
loop-limit-preserved c =
    let inv = c.loop-limit.invariant in
    let next = next_text _ _ c.loop-limit.limit-iterator c.next.new.self c.in-Some.limit inv.0 inv.1 c.in-Some.ensures.steps in
    (next.0, next.2, λ new h. inv.2 new (held_more _ _ _ _ _ _ _ next.1 c.hold.ensures h))

pub returns : goal.returns
returns c =
    let inv = c.loop-limit.invariant in
    let none = no_text _ _ _ _ inv.0 inv.1 c.in-None.ensures.steps in
    inv.2 _ (subst (λ (ts : List (List ℕ)). AreHeld ts c.args.now c.loop-limit.self c.loop-limit.self) (sym none) (held_none c.args.now c.loop-limit.self))
