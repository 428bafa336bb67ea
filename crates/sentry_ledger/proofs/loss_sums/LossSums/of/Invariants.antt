use Rattle.std.proofs.Common.{◌≡◌, fold, take}
use Rattle.sentry_ledger.specs.LossSums.{add_loss, no_sums}
use Rattle.sentry_ledger.proofs.loss_sums.LossSums.of.Given as goal

abbrev pub invariant-loop-loss : goal.invariant-loop-loss
invariant-loop-loss l = l.sums ≡ fold add_loss (record { row = no_sums }) (take l.loss-index l.losses)
