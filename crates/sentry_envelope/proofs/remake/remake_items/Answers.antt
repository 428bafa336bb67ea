use Rattle.std.proofs.Common.{arith, sym, ◌∙◌}
use Rattle.sentry_envelope.proofs.EnvelopeMade.{one_made, none_made, all_made}
use Rattle.sentry_envelope.proofs.remake.remake_items.Goals as goal
use Rattle.sentry_envelope.proofs.remake.remake_items.Goals.{then-stands+in_ok-remake+in_ok-push, else-stands}

pub loop-item-preserved : goal.loop-item-preserved
loop-item-preserved c = elim c.if-stands.branch [
  | then-stands+in_ok-remake+in_ok-push w ↦ rw w.made-is
      (one_made c.args.way c.args.items.now c.loop-item.item-index c.item-item.result c.loop-item-test.true c.item-item.is c.loop-item.made.items _ w.in_ok-remake.field-0 _ (sym c.stands.ensures ∙ w.if-stands.true)
      w.in_ok-remake.ensures w.in_ok-push.ensures.items c.loop-item.invariant)
  | else-stands w ↦ rw w.made-is
      (none_made c.args.way c.args.items.now c.loop-item.item-index c.item-item.result c.loop-item-test.true c.item-item.is c.loop-item.made.items _ (sym c.stands.ensures ∙ w.if-stands.false) c.loop-item.invariant)
]

pub returns : goal.returns
returns c = all_made c.args.way c.args.items.now c.loop-item.item-index c.loop-item.made.items _ (omega (arith, c.loop-item-test.false, c.loop-item.auto.item-index-end)) c.loop-item.invariant
