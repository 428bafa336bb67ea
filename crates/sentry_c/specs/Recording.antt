-- Losses in a row of sums, as a ledger in a row of sums records them.
use Rattle.std.specs.Prelude.{◌≡◌, ℕ, List, ◌∷◌, fold, map, slice_get, slice_index, Option, Some, None}
use Rattle.std.specs.List.{flat_map}
use Rattle.sentry_ledger.specs.Histories.{AnswersSteps}
use Rattle.sentry_ledger.specs.Recorded.{Records, adds, counted}
use Rattle.sentry_ledger.specs.declared.steps.StepAnswer.{StepAnswer}
use Rattle.sentry_reports.specs.Categories.{categories, reasons}
use Rattle.sentry_reports.specs.Sums.{place}
use Rattle.sentry_reports.specs.declared.category.Category.{Category}
use Rattle.sentry_reports.specs.declared.item_loss.ItemLoss.{ItemLoss}
use Rattle.sentry_reports.specs.declared.reason.Reason.{Reason}
use Rattle.sentry_c.specs.Losses.{IsRowOfEnvelope}

-- the loss that a row has of a category, for a reason or without one
abbrev pub loss_in : List ℕ → Category → Option Reason → ItemLoss
loss_in row category reason = record { category = category; quantity = slice_index row (place category reason); reason = reason }

-- the losses of a category: the one without a reason, and one for each reason
abbrev pub losses_in : List ℕ → Category → List ItemLoss
losses_in row category = loss_in row category None ∷ map (λ reason. loss_in row category (Some reason)) reasons

-- the losses of a row, category by category
abbrev pub losses_told : List ℕ → List ItemLoss
losses_told row = flat_map (losses_in row) categories

-- A ledger in a row records the losses of a row of sums, one after another; so many are refused.
abbrev pub RecordsRow : List ℕ → List ℕ → Reason → List ℕ → ℕ → Type 0
RecordsRow old new reason losses refused = Records (record { row = old }) (record { row = new }) reason (losses_told losses) refused

-- A ledger in a row records what is lost with the envelope in these bytes, under the reason of this
-- number where a loss has none; so many are refused.
pub record RecordsEnvelope (old new : List ℕ) (number : ℕ) (bytes : List ℕ) (refused : ℕ) : Type 0 where
  pub reason : Reason
  pub reason_is : slice_get reasons number ≡ Some reason
  pub losses : List ℕ
  pub lost : IsRowOfEnvelope bytes losses
  pub recorded : RecordsRow old new reason losses refused

-- ---- parts of a run

-- a ledger in a row records these losses beside those before them
pub record RecordsOn (old new : List ℕ) (reason : Reason) (before after : ℕ) (losses : List ItemLoss) : Type 0 where
  pub answers : List StepAnswer
  pub answered : AnswersSteps (record { row = old }) (record { row = new }) (adds reason losses) answers
  pub refused_are : after ≡ fold counted before answers
