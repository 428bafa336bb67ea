-- The losses of the items that a filter is handed, as steps of a ledger.
use Rattle.std.specs.Prelude.{◌≡◌, ℕ, ◌+◌, ◌-◌, ◌^◌, min, Bool, true, false, List, map, count_by, fold, if◌then◌else◌, Option}
use Rattle.sentry_items.specs.declared.item.EnvelopeItem.{EnvelopeItem}
use Rattle.sentry_items.specs.Losses.{losses_of_item, losses_of_items}
use Rattle.sentry_reports.specs.declared.item_loss.ItemLoss.{ItemLoss}
use Rattle.sentry_reports.specs.declared.reason.Reason.{Reason}
use Rattle.sentry_envelope.specs.EnvelopeView.{no_fields}
use Rattle.sentry_envelope.specs.Filter.{FiltersEnvelope, asked_items, handed}
use Rattle.sentry_envelope.specs.declared.envelope.Envelope.{Envelope}
use Rattle.sentry_ledger.specs.Histories.{AnswersSteps}
use Rattle.sentry_ledger.specs.declared.ledger.Ledger.{Ledger}
use Rattle.sentry_ledger.specs.declared.recorded.Recording.{Recording}
use Rattle.sentry_ledger.specs.declared.recorded.RecordingFilter.{RecordingFilter}
use Rattle.sentry_ledger.specs.declared.steps.Step.{Step}
use Rattle.sentry_ledger.specs.declared.steps.Step.TheVariants.{Add}
use Rattle.sentry_ledger.specs.declared.steps.StepAnswer.{StepAnswer}
use Rattle.sentry_ledger.specs.declared.steps.StepAnswer.TheVariants.{Refused}

-- the steps that record losses, one after another
abbrev pub adds : Reason → List ItemLoss → List Step
adds reason losses = map (λ loss. Add loss reason) losses

abbrev pub is_refused : StepAnswer → Bool
is_refused Refused = true
is_refused _ = false

-- a ledger records losses, one after another; so many are refused, cut at 2^64-1
pub record Records (old new : Ledger) (reason : Reason) (losses : List ItemLoss) (refused : ℕ) : Type 0 where
  pub answers : List StepAnswer
  pub answered : AnswersSteps old new (adds reason losses) answers
  pub refused_are : refused ≡ min (count_by is_refused answers) (2 ^ 64 - 1)

-- a filter goes over an envelope as it does without a ledger, and the losses of the items that it
-- is handed are recorded
pub record FiltersRecorded {F : Type 0} (ask : F → EnvelopeItem → Bool → F → Type 0) (hand : F → EnvelopeItem → F → Type 0) (envelope : Envelope) (first last : F) (left : Option Envelope)
    (reason : Reason) (old new : Ledger) (refused : ℕ) : Type 0 where
  pub filters : FiltersEnvelope no_fields ask hand envelope first last left
  pub records : Records old new reason (losses_of_items (handed (asked_items envelope) filters.filters.answers)) refused

-- ---- parts of a run

-- the number of refused losses after one more answer
abbrev pub counted : ℕ → StepAnswer → ℕ
counted refused answer = if is_refused answer then min (refused + 1) (2 ^ 64 - 1) else refused

-- these losses are recorded beside those before them
pub record RecordsMore (old new : Recording) (losses : List ItemLoss) : Type 0 where
  pub reason_stays : new.reason ≡ old.reason
  pub answers : List StepAnswer
  pub answered : AnswersSteps old.ledger new.ledger (adds old.reason losses) answers
  pub refused_are : new.refused ≡ fold counted old.refused answers

abbrev pub filter_in : {F : Type 0} → RecordingFilter F → F
filter_in f = f.filter

abbrev pub recording_in : {F : Type 0} → RecordingFilter F → Recording
recording_in f = f.recording

-- the filter in it is asked, and nothing is recorded
abbrev pub AsksBeside : {F : Type 0} → (F → EnvelopeItem → Bool → F → Type 0) → RecordingFilter F → EnvelopeItem → Bool → RecordingFilter F → Type 0
AsksBeside ask first item answer next = ask (filter_in first) item answer (filter_in next) × (recording_in next ≡ recording_in first)

-- the filter in it is handed an item, and its losses are recorded
abbrev pub HandsBeside : {F : Type 0} → (F → EnvelopeItem → F → Type 0) → RecordingFilter F → EnvelopeItem → RecordingFilter F → Type 0
HandsBeside hand first item next = hand (filter_in first) item (filter_in next) × RecordsMore (recording_in first) (recording_in next) (losses_of_item item)
