use Rattle.std.proofs.Common.{◌≡◌, take, arith, rules}
use Rattle.std.proofs.lemmas.List.{take_all}
use Rattle.serde_json.proofs.Views.{view-Array}
use Rattle.sentry_tables.proofs.Collections.{written_more_at, list_written}
use Rattle.sentry_tables.proofs.lists.VecMember.to_tree.Goals as goal

pub loop-item-preserved : goal.loop-item-preserved
loop-item-preserved g c = written_more_at _ _ _ _ _ c.deref-item-items.result.now c.loop-item.item-index c.item-item.result (omega arith) c.item-item.is c.in_ok-push.ensures.items c.loop-item.invariant c.in_ok-to_tree.ensures

pub returns : goal.returns
returns g c =
    let xs = c.deref-item-items.result.now in
    let ends : take c.loop-item.item-index xs ≡ c.args.self.now.items = search (rules, take_all) in
    list_written _ _ _ c.loop-item.items.items _ (view-Array c.loop-item.items) (rw ends at c.loop-item.invariant)
