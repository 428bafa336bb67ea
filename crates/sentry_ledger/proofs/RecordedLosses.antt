-- A ledger that records one loss after another of a list.
use Rattle.std.proofs.Common.{arith, ◌≡◌, ℕ, ◌+◌, ◌-◌, ◌^◌, ◌<◌, min, Bool, true, false, if◌then◌else◌, List, [], ◌∷◌, ◌++◌, length, count_by, get_or, take, Result, Ok, Err, refl, ap, subst, sym, ◌∙◌}
use Rattle.std.proofs.lemmas.List.{map-append, take_more}
use Rattle.std.proofs.lemmas.List.Sums.{sum_by-append}
use Rattle.std.specs.Result.{is_err}
use Rattle.sentry_reports.specs.declared.item_loss.ItemLoss.{ItemLoss}
use Rattle.sentry_reports.specs.declared.reason.Reason.{Reason}
use Rattle.sentry_ledger.specs.Held.{quantity_held}
use Rattle.sentry_ledger.specs.Histories.{AnswersSteps, Holds, IsAnswered, entry_of_record}
use Rattle.sentry_ledger.specs.Recorded.{Records, adds, is_refused}
use Rattle.sentry_ledger.specs.declared.ledger.Ledger.{Ledger}
use Rattle.sentry_ledger.specs.declared.ledger.LedgerFull.{LedgerFull}
use Rattle.sentry_ledger.specs.declared.steps.Step.{Step}
use Rattle.sentry_ledger.specs.declared.steps.Step.TheVariants.{Add}
use Rattle.sentry_ledger.specs.declared.steps.StepAnswer.{StepAnswer}
use Rattle.sentry_ledger.specs.declared.steps.StepAnswer.TheVariants.{Accepted, Refused}
use Rattle.sentry_ledger.proofs.StepLemmas.{answers_none, answers_one, answers_append}

pub records_none : (ledger : Ledger) (reason : Reason) → Records ledger ledger reason [] 0
records_none ledger reason = record { answers = []; answered = answers_none ledger; refused_are = omega arith }

-- the number of refused losses after one more answer, cut once
one_more : (answers : List StepAnswer) (answer : StepAnswer) (refused next : ℕ) → refused ≡ min (count_by is_refused answers) (2 ^ 64 - 1)
    → next ≡ (if is_refused answer then min (refused + 1) (2 ^ 64 - 1) else refused) → next ≡ min (count_by is_refused (answers ++ answer ∷ [])) (2 ^ 64 - 1)
one_more answers answer refused next before more = go (is_refused answer) (sum_by-append (λ (a : StepAnswer). if is_refused a then 1 else 0) answers (answer ∷ [])) more
  where
    go : (b : Bool) → count_by is_refused (answers ++ answer ∷ []) ≡ count_by is_refused answers + (0 + (if b then 1 else 0)) → next ≡ (if b then min (refused + 1) (2 ^ 64 - 1) else refused)
        → next ≡ min (count_by is_refused (answers ++ answer ∷ [])) (2 ^ 64 - 1)
    go true all is = omega (arith, all, is, before)
    go false all is = omega (arith, all, is, before)

module _ (old middle new : Ledger) (reason : Reason) (losses : List ItemLoss) (loss : ItemLoss) (refused next : ℕ) (first : Records old middle reason losses refused) where
  by_answer : (answer : StepAnswer) → IsAnswered (quantity_held middle) (Add loss reason, answer) → Holds new (quantity_held middle) ((Add loss reason, answer) ∷ [])
      → next ≡ (if is_refused answer then min (refused + 1) (2 ^ 64 - 1) else refused) → Records old new reason (losses ++ loss ∷ []) next
  by_answer answer answered holds more = record {
    answers = first.answers ++ answer ∷ [];
    answered =
        subst (λ (steps : List Step). AnswersSteps old new steps (first.answers ++ answer ∷ [])) (sym (map-append (λ (l : ItemLoss). Add l reason) losses (loss ∷ [])))
        (answers_append old middle new (adds reason losses) first.answers (Add loss reason ∷ []) (answer ∷ []) first.answered (answers_one middle new (Add loss reason) answer answered holds));
    refused_are = one_more first.answers answer refused next first.refused_are more;
  }

  -- one loss more, by what the ledger answers
  records_more : (result : Result (Unit {0}) LedgerFull) (full : Bool) → full ≡ is_err result → IsAnswered (quantity_held middle) (entry_of_record loss reason result)
      → Holds new (quantity_held middle) (entry_of_record loss reason result ∷ []) → next ≡ (if full then min (refused + 1) (2 ^ 64 - 1) else refused) → Records old new reason (losses ++ loss ∷ []) next
  records_more (Ok done) false is answered holds more = by_answer Accepted answered holds more
  records_more (Ok done) true is answered holds more = absurd (cc)
  records_more (Err full) true is answered holds more = by_answer Refused answered holds more
  records_more (Err full) false is answered holds more = absurd (cc)

-- the next loss of a list
pub records_next : (old middle new : Ledger) (reason : Reason) (losses : List ItemLoss) (i : ℕ) (loss : ItemLoss) (refused next : ℕ) (result : Result (Unit {0}) LedgerFull) (full : Bool)
    → full ≡ is_err result → i < length losses → loss ≡ get_or losses i loss → Records old middle reason (take i losses) refused → IsAnswered (quantity_held middle) (entry_of_record loss reason result)
    → Holds new (quantity_held middle) (entry_of_record loss reason result ∷ []) → next ≡ (if full then min (refused + 1) (2 ^ 64 - 1) else refused) → Records old new reason (take (i + 1) losses) next
records_next old middle new reason losses i loss refused next result full told within is first answered holds more =
    let taken : take (i + 1) losses ≡ take i losses ++ loss ∷ [] = take_more losses i loss within ∙ ap (λ (l : ItemLoss). take i losses ++ l ∷ []) (sym is) in
    rw taken (records_more old middle new reason (take i losses) loss refused next first result full told answered holds more)
