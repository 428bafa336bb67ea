use Rattle.std.proofs.Common.{◌≡◌, take, arith, rules}
use Rattle.std.proofs.lemmas.List.{take_all}
use Rattle.sentry_tables.proofs.Collections.{copied_more}
use Rattle.sentry_tables.proofs.Ways.{list_made}
use Rattle.sentry_tables.proofs.lists.VecMember.remake.Goals as goal

pub loop-item-preserved : goal.loop-item-preserved
loop-item-preserved g c = copied_more _ _ _ _ c.deref-item-items.result.now c.loop-item.item-index _ c.item-item.result (omega arith) c.item-item.is c.in_ok-push.ensures.items c.loop-item.invariant c.in_ok-remake.ensures

pub returns : goal.returns
returns g c =
    let xs = c.deref-item-items.result.now in
    let ends : take c.loop-item.item-index xs ≡ c.args.self.now.items = search (rules, take_all) in
    list_made _ _ _ _ _ (rw ends at c.loop-item.invariant)
