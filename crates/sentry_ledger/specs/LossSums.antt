-- Sums of losses: one for each category and reason, or none.
use Rattle.std.specs.Prelude.{◌≡◌, ℕ, ◌+◌, ◌-◌, ◌^◌, min, List, length, replicate, slice_index, slice_set, Option}
use Rattle.sentry_reports.specs.Sums.{place, shown}
use Rattle.sentry_reports.specs.declared.category.Category.{Category}
use Rattle.sentry_reports.specs.declared.item_loss.ItemLoss.{ItemLoss}
use Rattle.sentry_reports.specs.declared.reason.Reason.{Reason}
use Rattle.sentry_ledger.specs.declared.loss_sums.LossSums.{LossSums}
use Rattle.sentry_ledger.specs.declared.loss_sums.TheConstants.{SUMS}

-- the sum of a category and a reason, or none
abbrev pub sum_at : LossSums → Category → Option Reason → ℕ
sum_at sums category reason = slice_index sums.row (place category reason)

-- all sums where nothing is lost
abbrev pub no_sums : List ℕ
no_sums = replicate SUMS 0

-- one more loss: its sum stops at what 64 bits hold
abbrev pub add_loss : LossSums → ItemLoss → LossSums
add_loss sums loss = record { row = slice_set sums.row (place loss.category loss.reason) (min (sum_at sums loss.category loss.reason + loss.quantity) (2 ^ 64 - 1)) }

-- each sum is that of these losses
pub record SumsLosses (sums : LossSums) (losses : List ItemLoss) : Type 0 where
  pub long : length sums.row ≡ SUMS
  pub each : (category : Category) (reason : Option Reason) → sum_at sums category reason ≡ shown category reason losses
