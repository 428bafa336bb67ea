use Rattle.std.proofs.Common.{arith}
use Rattle.sentry_ledger.proofs.SumLemmas.{all_summed}
use Rattle.sentry_ledger.proofs.loss_sums.LossSums.of.Goals as goal

pub returns : goal.returns
returns c = all_summed c.loop-loss.sums c.args.losses.now c.loop-loss.loss-index (omega (arith, c.loop-loss-test.false)) c.loop-loss.invariant
