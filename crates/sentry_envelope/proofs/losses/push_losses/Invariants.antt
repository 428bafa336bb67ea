use Rattle.std.proofs.Common.{◌≡◌, ◌++◌}
use Rattle.sentry_items.specs.Losses.{losses_left, losses_of_item}
use Rattle.sentry_envelope.proofs.losses.push_losses.Given as goal

abbrev pub invariant-loop-loss : goal.invariant-loop-loss
invariant-loop-loss l = l.losses.items ++ losses_left l.loss-iterator ≡ l.initial.losses.items ++ losses_of_item l.item
