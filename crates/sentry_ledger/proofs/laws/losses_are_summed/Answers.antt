use Rattle.sentry_ledger.proofs.SumLemmas.{sums_losses}
use Rattle.sentry_ledger.proofs.laws.losses_are_summed.Goals as goal

pub returns : goal.returns
returns c = sums_losses
