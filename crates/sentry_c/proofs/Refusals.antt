-- A ledger in a row that records one loss after another.
use Rattle.std.proofs.Common.{arith, ◌≡◌, ℕ, ◌+◌, ◌-◌, ◌^◌, ◌≤◌, min, Bool, true, false, if◌then◌else◌, List, [], ◌∷◌, ◌++◌, count_by, fold, length, refl, ap, subst, sym, ◌∙◌}
use Rattle.std.proofs.lemmas.List.{map-append}
use Rattle.std.proofs.lemmas.List.Sums.{fold-append, sum_by-cons}
use Rattle.sentry_reports.specs.declared.item_loss.ItemLoss.{ItemLoss}
use Rattle.sentry_reports.specs.declared.reason.Reason.{Reason}
use Rattle.sentry_ledger.specs.Held.{held_in}
use Rattle.sentry_ledger.specs.Histories.{AnswersSteps, Holds, IsAnswered}
use Rattle.sentry_ledger.specs.Recorded.{Records, adds, counted, is_refused}
use Rattle.sentry_ledger.specs.declared.steps.Step.{Step}
use Rattle.sentry_ledger.specs.declared.steps.Step.TheVariants.{Add}
use Rattle.sentry_ledger.specs.declared.steps.StepAnswer.{StepAnswer}
use Rattle.sentry_ledger.proofs.StepLemmas.{answers_append, answers_none, answers_one}
use Rattle.sentry_c.specs.Recording.{RecordsOn}

-- the number is that of all refusals, cut once
count_cut : (n : ℕ) (answers : List StepAnswer) → n ≤ 2 ^ 64 - 1 → fold counted n answers ≡ min (n + count_by is_refused answers) (2 ^ 64 - 1)
count_cut n [] small = omega (arith, small)
count_cut n (answer ∷ answers) small =
    go (is_refused answer) (sum_by-cons (λ (a : StepAnswer). if is_refused a then 1 else 0) answer answers) (λ m below. count_cut m answers below)
  where
    go : (b : Bool) → count_by is_refused (answer ∷ answers) ≡ (if b then 1 else 0) + count_by is_refused answers
        → ((m : ℕ) → m ≤ 2 ^ 64 - 1 → fold counted m answers ≡ min (m + count_by is_refused answers) (2 ^ 64 - 1))
        → fold counted (if b then min (n + 1) (2 ^ 64 - 1) else n) answers ≡ min (n + count_by is_refused (answer ∷ answers)) (2 ^ 64 - 1)
    go true all rest = rest (min (n + 1) (2 ^ 64 - 1)) (omega arith) ∙ omega (arith, all)
    go false all rest = rest n small ∙ omega (arith, all)

pub records_none : (row : List ℕ) (reason : Reason) (refused : ℕ) → RecordsOn row row reason refused refused []
records_none row reason refused = record { answers = []; answered = answers_none (record { row = row }); refused_are = refl }

-- one loss, by what the ledger answers
pub records_one : (old new : List ℕ) (reason : Reason) (loss : ItemLoss) (before after : ℕ) (answer : StepAnswer) → IsAnswered (held_in old) (Add loss reason, answer)
    → Holds (record { row = new }) (held_in old) ((Add loss reason, answer) ∷ []) → after ≡ counted before answer → RecordsOn old new reason before after (loss ∷ [])
records_one old new reason loss before after answer answered holds more =
    record { answers = answer ∷ []; answered = answers_one (record { row = old }) (record { row = new }) (Add loss reason) answer answered holds; refused_are = more }

pub records_append : (a b c : List ℕ) (reason : Reason) (k m n : ℕ) (xs ys : List ItemLoss) → RecordsOn a b reason k m xs → RecordsOn b c reason m n ys → RecordsOn a c reason k n (xs ++ ys)
records_append a b c reason k m n xs ys first second = record {
  answers = first.answers ++ second.answers;
  answered =
      subst (λ (steps : List Step). AnswersSteps (record { row = a }) (record { row = c }) steps (first.answers ++ second.answers)) (sym (map-append (λ (loss : ItemLoss). Add loss reason) xs ys))
      (answers_append (record { row = a }) (record { row = b }) (record { row = c }) (adds reason xs) first.answers (adds reason ys) second.answers first.answered second.answered);
  refused_are = second.refused_are ∙ (ap (λ (r : ℕ). fold counted r second.answers) first.refused_are ∙ sym (fold-append counted k first.answers second.answers));
}

-- from none, so many are refused in all
pub records_row : (old new : List ℕ) (reason : Reason) (losses : List ItemLoss) (refused : ℕ) → RecordsOn old new reason 0 refused losses → Records (record { row = old }) (record { row = new }) reason losses refused
records_row old new reason losses refused more = record {
  answers = more.answers;
  answered = more.answered;
  refused_are = more.refused_are ∙ (count_cut 0 more.answers (omega arith) ∙ omega arith);
}

-- ---- the losses of what is left of a list

pub none_left : {A : Type 0} (losses : List A → List ItemLoss) (left : List A) (row : List ℕ) (reason : Reason) (refused : ℕ) → losses [] ≡ [] → length left ≡ 0 → RecordsOn row row reason refused refused (losses left)
none_left losses [] row reason refused none ends = rw none (records_none row reason refused)
none_left losses (x ∷ left) row reason refused none ends = absurd (omega (arith, ends))

pub one_left : {A : Type 0} (losses : List A → List ItemLoss) (left : List A) (x : A) (rest : List A) (a b c : List ℕ) (reason : Reason) (k m n : ℕ) (own : List ItemLoss) → left ≡ x ∷ rest
    → losses (x ∷ rest) ≡ own ++ losses rest → RecordsOn a b reason k m own → RecordsOn b c reason m n (losses rest) → RecordsOn a c reason k n (losses left)
one_left losses left x rest a b c reason k m n own is splits first more = rw (is, splits) (records_append a b c reason k m n own (losses rest) first more)
