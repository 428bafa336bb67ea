-- The table of losses that are summed.
use Rattle.std.proofs.Common.{◌≡◌, ℕ, List, ap, ◌∙◌}
use Rattle.sentry_reports.specs.declared.item_loss.ItemLoss.{ItemLoss}
use Rattle.sentry_ledger.specs.LossSums.{SumsLosses, sum_at}
use Rattle.sentry_ledger.specs.declared.loss_sums.LossSums.{LossSums}
use Rattle.sentry_program.specs.Table.{table_by, table_of}

-- the table of sums is that of the losses
pub table_of_sums : (sums : LossSums) (losses : List ItemLoss) (text : List ℕ) → SumsLosses sums losses → text ≡ table_by (sum_at sums) → text ≡ table_of losses
unfolding table_of
table_of_sums sums losses text summed is = is ∙ ap table_by (λ i. λ c r. summed.each c r i)
