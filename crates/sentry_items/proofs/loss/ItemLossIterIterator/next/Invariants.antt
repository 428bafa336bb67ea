use Rattle.std.proofs.Common.{◌≡◌, length}
use Rattle.sentry_items.specs.Losses.{losses_left}
use Rattle.sentry_items.proofs.loss.ItemLossIterIterator.next.Given as goal

-- what is skipped has no losses
abbrev pub invariant-loop-loss : goal.invariant-loop-loss
invariant-loop-loss l = losses_left l.self ≡ losses_left l.initial.self

abbrev pub decreases-loop-loss : goal.decreases-loop-loss
decreases-loop-loss l = length l.self.items.now
