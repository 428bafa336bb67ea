-- The history of a ledger: its steps with their answers.
use Rattle.std.specs.Prelude.{◌≡◌, ℕ, ◌+◌, Bool, List, ◌∷◌, ◌++◌, length, map, sum_by, Option, Some, None, Result, Ok, Err, is_some, if◌then◌else◌}
use Rattle.std.specs.declared.alloc.AllocError.{AllocError}
use Rattle.std.specs.List.{after_last, filter_map, list_any, zip}
use Rattle.sentry_moments.specs.declared.moment.Moment.{Moment}
use Rattle.sentry_reports.specs.ReportSums.{report_sum}
use Rattle.sentry_reports.specs.Reports.{report}
use Rattle.sentry_reports.specs.Sums.{lost}
use Rattle.sentry_reports.specs.declared.category.Category.{Category}
use Rattle.sentry_reports.specs.declared.item_loss.ItemLoss.{ItemLoss}
use Rattle.sentry_reports.specs.declared.reason.Reason.{Reason}
use Rattle.sentry_reports.specs.declared.report.Report.{Report}
use Rattle.sentry_ledger.specs.Held.{Quantities, quantity_held, HoldsNothing, HasRoom, recorded_loss, items_held}
use Rattle.sentry_ledger.specs.declared.ledger.Ledger.{Ledger}
use Rattle.sentry_ledger.specs.declared.ledger.LedgerFull.{LedgerFull}
use Rattle.sentry_ledger.specs.declared.steps.Step.{Step}
use Rattle.sentry_ledger.specs.declared.steps.Step.TheVariants.{Add, Flush}
use Rattle.sentry_ledger.specs.declared.steps.StepAnswer.{StepAnswer}
use Rattle.sentry_ledger.specs.declared.steps.StepAnswer.TheVariants.{Accepted, Refused, Flushed, Nothing, NoMemory}

-- a step and the answer to it
abbrev pub Entry : Type 0
Entry = Step × StepAnswer

-- the entry of a loss that is recorded or refused
abbrev pub entry_of_record : ItemLoss → Reason → Result (Unit {0}) LedgerFull → Entry
entry_of_record loss given (Ok done) = (Add loss given, Accepted)
entry_of_record loss given (Err full) = (Add loss given, Refused)

-- the entry of a flush at a moment
abbrev pub entry_of_flush : Moment → Result (Option Report) AllocError → Entry
entry_of_flush now (Ok (Some given)) = (Flush now, Flushed given)
entry_of_flush now (Ok None) = (Flush now, Nothing)
entry_of_flush now (Err refused) = (Flush now, NoMemory)

-- the loss that an entry records, if it does
abbrev pub loss_of : Entry → Option ItemLoss
loss_of (Add loss given, Accepted) = Some (recorded_loss loss given)
loss_of _ = None

-- the report that an answer gives, if it does
abbrev pub report_of : StepAnswer → Option Report
report_of (Flushed given) = Some given
report_of _ = None

-- an entry whose answer is a report
abbrev pub is_flush : Entry → Bool
is_flush entry = is_some (report_of entry.1)

-- the sum of all quantities of a pair that were recorded, without bound
unfoldable pub accepted : Category → Reason → List Entry → ℕ
accepted category reason history = lost category (Some reason) (filter_map loss_of history)

-- the sum of a pair over all reports that were answered, without bound
unfoldable pub flushed : Category → Reason → List StepAnswer → ℕ
flushed category reason answers = sum_by (λ given. report_sum category reason given.items) (filter_map report_of answers)

-- the answers of a history
abbrev pub answers_of : List Entry → List StepAnswer
answers_of history = map (λ entry. entry.1) history

-- what is held after a history: all that was recorded since the last report; without a report, what
-- was held at the start and all that was recorded
unfoldable pub held_after : Quantities → List Entry → Quantities
held_after start history category reason =
    if list_any is_flush history then accepted category reason (after_last is_flush history) else start category reason + accepted category reason history

-- the answer of an entry is the right one to its step, if so much is held before it
abbrev pub IsAnswered : Quantities → Entry → Type 0
IsAnswered held (Add loss given, Accepted) = HasRoom held loss given
IsAnswered held (Add loss given, Refused) = HasRoom held loss given → ⊥
IsAnswered held (Flush now, Flushed given) = (HoldsNothing held → ⊥) × (given ≡ report now (items_held held))
IsAnswered held (Flush now, Nothing) = HoldsNothing held
IsAnswered held (Flush now, NoMemory) = HoldsNothing held → ⊥
IsAnswered held _ = ⊥

-- each answer of a history is the right one after the entries before it
abbrev pub IsHistory : Quantities → List Entry → Type 0
IsHistory start history =
    (before after : List Entry) (entry : Entry) → history ≡ before ++ entry ∷ after → IsAnswered (held_after start before) entry

-- nothing that is accepted in a history is lost: it is reported, or held at its end
abbrev pub IsConserved : Quantities → List Entry → Type 0
IsConserved start history =
    (category : Category) (reason : Reason)
    → flushed category reason (answers_of history) + held_after start history category reason ≡ start category reason + accepted category reason history

-- a ledger holds what is held after a history
abbrev pub Holds : Ledger → Quantities → List Entry → Type 0
Holds ledger start history = (category : Category) (reason : Reason) → quantity_held ledger category reason ≡ held_after start history category reason

-- a ledger answers steps, one after another: they and their answers are a history, after which it
-- holds what that says
pub record AnswersSteps (old new : Ledger) (steps : List Step) (answers : List StepAnswer) : Type 0 where
  pub complete : length answers ≡ length steps
  pub history : IsHistory (quantity_held old) (zip steps answers)
  pub held : Holds new (quantity_held old) (zip steps answers)
