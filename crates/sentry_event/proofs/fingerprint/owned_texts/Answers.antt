use Rattle.std.proofs.Common.{◌≡◌, ap, take, arith, rules}
use Rattle.std.proofs.lemmas.List.{take_all}
use Rattle.sentry_tables.specs.Cell.{sequence, text}
use Rattle.sentry_tables.specs.Cells.{cow_cell}
use Rattle.sentry_tables.proofs.Collections.{copied_more}
use Rattle.sentry_event.proofs.fingerprint.owned_texts.Goals as goal

pub loop-text-preserved : goal.loop-text-preserved
loop-text-preserved c = copied_more cow_cell cow_cell _ _ c.deref-text-items.result.now c.loop-text.text-index _ c.text-item.result (omega arith) c.text-item.is c.in_ok-push.ensures.items c.loop-text.invariant (ap text (search rules))

pub returns : goal.returns
returns c =
    let xs = c.deref-text-items.result.now in
    let ends : take c.loop-text.text-index xs ≡ c.args.texts.now.items = search (rules, take_all) in
    ap sequence (rw ends at c.loop-text.invariant)
