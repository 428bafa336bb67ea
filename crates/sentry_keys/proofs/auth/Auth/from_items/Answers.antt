use Rattle.std.proofs.Common.{◌==◌, lit<}
use Rattle.std.specs.List.{slice_split}
use Rattle.std.proofs.lemmas.Iterator.Splits.{YieldsList-from_str_split}
use Rattle.std.proofs.lemmas.Result.{err_from_is_err_and}
use Rattle.sentry_keys.proofs.AuthPairs.{told_first, told_next, told_same, told_none, next_item, no_item, pair_left, none_left, pair_fails}
use Rattle.sentry_keys.specs.AuthText.{list_pairs}
use Rattle.sentry_keys.proofs.auth.Auth.from_items.Goals as goal

pub loop-item-init : goal.loop-item-init
loop-item-init c =
    rw c.into_iter-item-iterator.ensures.into_iter_gives (
      slice_split (λ b. b == 44) c.args.items.now,
      YieldsList-from_str_split 44 c.args.items.now (lit< tt) c.split-item-items.ensures.text c.split-item-items.ensures.has_more c.split-item-items.ensures.pattern,
      told_first _ _ c.untold-auth.ensures,
    )

pub loop-item-preserved-in-Continue-1 : goal.loop-item-preserved-in-Continue-1
loop-item-preserved-in-Continue-1 c =
    let inv = c.loop-item.invariant in
    let next = next_item _ _ c.loop-item.item-iterator c.next.new.self c.in-Some.item inv.0 inv.1 c.in-Some.ensures.steps in
    (next.0, next.2, told_next _ _ _ _ _ _ _ inv.2 (pair_left _ _ _ _ _ next.1 c.in-Some-item_pair.ensures) c.in_ok-tell.ensures.ok)

pub returns-in_err-tell : goal.returns-in_err-tell
returns-in_err-tell c =
    let inv = c.loop-item.invariant in
    let next = next_item _ _ c.loop-item.item-iterator c.next.new.self c.in-Some.item inv.0 inv.1 c.in-Some.ensures.steps in
    let p = err_from_is_err_and c.from_residual.result c.from_residual.ensures.1 in
    rw (p.1, p.2) (pair_fails _ _ _ _ _ _ _ inv.2 (pair_left _ _ _ _ _ next.1 c.in-Some-item_pair.ensures) c.in_err-tell.ensures.err)

pub loop-item-preserved : goal.loop-item-preserved
loop-item-preserved c =
    let inv = c.loop-item.invariant in
    let next = next_item _ _ c.loop-item.item-iterator c.next.new.self c.in-Some.item inv.0 inv.1 c.in-Some.ensures.steps in
    (next.0, next.2, told_same _ _ _ _ inv.2 (none_left _ _ _ next.1 c.in_default.ensures))

pub returns : goal.returns
returns c =
    let inv = c.loop-item.invariant in
    c.with_key.ensures (list_pairs c.args.items.now) (told_none _ _ _ inv.2 (no_item _ _ _ _ inv.0 inv.1 c.in-None.ensures.steps))
