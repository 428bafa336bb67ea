use Rattle.std.proofs.Common.{refl, arith}
use Rattle.sentry_json.proofs.Gathered.{more_items_at}
use Rattle.sentry_json.proofs.node.RefValueNode.items.Goals as goal

pub loop-item-preserved : goal.loop-item-preserved
loop-item-preserved c =
    more_items_at _ _ _ _ c.deref-item-items.result.now c.loop-item.item-index c.item-item.result (omega arith) c.item-item.is c.in_ok-push.ensures.items c.loop-item.invariant refl
