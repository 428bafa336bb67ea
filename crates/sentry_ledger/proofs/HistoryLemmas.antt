-- Histories that go on by one entry.
use Rattle.std.proofs.Common.{arith, ◌≡◌, ℕ, suc, ◌+◌, ◌-◌, ◌⊎◌, inl, inr, Bool, true, false, not, ◌||◌, if◌then◌else◌, List, [], ◌∷◌, ◌++◌, length, sum_by, drop, get_or, set, Option, Some, None, is_some, Result, Ok, Err, refl, ap, sym, subst, ◌∙◌, length-append, append_assoc, append-nil}
use Rattle.std.proofs.lemmas.List.{reverse-append, drop-append-le, drop_all}
use Rattle.std.proofs.lemmas.List.Elements.{filter_map-append}
use Rattle.std.proofs.lemmas.List.Folds.{list_any-append}
use Rattle.std.proofs.lemmas.List.Sums.{sum_by-append}
use Rattle.std.specs.Result.{IsErr}
use Rattle.std.specs.declared.alloc.AllocError.{AllocError}
use Rattle.std.specs.List.{after_last, cons_option, filter_map, list_any, prefix_len, suffix_len, zip}
use Rattle.sentry_moments.specs.declared.moment.Moment.{Moment}
use Rattle.sentry_reports.specs.ReportSums.{pair_place, report_sum}
use Rattle.sentry_reports.specs.Sums.{lost}
use Rattle.sentry_reports.specs.declared.category.Category.{Category}
use Rattle.sentry_reports.specs.declared.item_loss.ItemLoss.{ItemLoss}
use Rattle.sentry_reports.specs.declared.kept_sums.TheConstants.{PAIRS}
use Rattle.sentry_reports.specs.declared.reason.Reason.{Reason}
use Rattle.sentry_reports.specs.declared.report.Report.{Report}
use Rattle.sentry_reports.proofs.Sums.{share}
use Rattle.sentry_ledger.specs.Held.{Quantities, reason_for}
use Rattle.sentry_ledger.specs.Histories.{Entry, entry_of_flush, loss_of, report_of, is_flush, accepted, flushed, held_after, IsAnswered, IsHistory}
use Rattle.sentry_ledger.specs.declared.steps.Step.{Step}
use Rattle.sentry_ledger.specs.declared.steps.Step.TheVariants.{Add, Flush}
use Rattle.sentry_ledger.proofs.HeldLemmas.{row_more}
use Rattle.sentry_ledger.specs.declared.steps.StepAnswer.{StepAnswer}
use Rattle.sentry_ledger.specs.declared.steps.StepAnswer.TheVariants.{Accepted, Flushed, NoMemory}

-- ---- the part after the last

module _ {A : Type 0} (p : A → Bool) where
  back_push : (xs : List A) (x : A) → suffix_len p (xs ++ x ∷ []) ≡ (if p x then suc (suffix_len p xs) else 0)
  back_push xs x = ap (prefix_len p) (reverse-append xs (x ∷ [])) ∙ go (p x)
    where
      go : (b : Bool) → (if b then 1 + suffix_len p xs else 0) ≡ (if b then suc (suffix_len p xs) else 0)
      go true = omega arith
      go false = refl

module _ {A : Type 0} (p : A → Bool) where
  pub after_last_push_no : (xs : List A) (x : A) → p x ≡ false → after_last p (xs ++ x ∷ []) ≡ after_last p xs ++ x ∷ []
  after_last_push_no xs x is =
      let back : suffix_len (λ y. not (p y)) (xs ++ x ∷ []) ≡ suc (suffix_len (λ y. not (p y)) xs) =
      back_push (λ y. not (p y)) xs x ∙ ap (λ (b : Bool). if not b then suc (suffix_len (λ y. not (p y)) xs) else 0) is in
      let at : length (xs ++ x ∷ []) - suffix_len (λ y. not (p y)) (xs ++ x ∷ []) ≡ length xs - suffix_len (λ y. not (p y)) xs =
      omega (arith, length-append xs (x ∷ []), back) in
      ap (λ (n : ℕ). drop n (xs ++ x ∷ [])) at ∙ drop-append-le (length xs - suffix_len (λ y. not (p y)) xs) xs (x ∷ []) (omega arith)

  pub after_last_push_yes : (xs : List A) (x : A) → p x ≡ true → after_last p (xs ++ x ∷ []) ≡ []
  after_last_push_yes xs x is =
      let back : suffix_len (λ y. not (p y)) (xs ++ x ∷ []) ≡ 0 =
      back_push (λ y. not (p y)) xs x ∙ ap (λ (b : Bool). if not b then suc (suffix_len (λ y. not (p y)) xs) else 0) is in
      drop_all (length (xs ++ x ∷ []) - suffix_len (λ y. not (p y)) (xs ++ x ∷ [])) (xs ++ x ∷ []) (omega (arith, back))

-- ---- sums of histories

pub accepted-append : (c : Category) (r : Reason) (xs ys : List Entry) → accepted c r (xs ++ ys) ≡ accepted c r xs + accepted c r ys
unfolding accepted
accepted-append c r xs ys = ap (sum_by (share c (Some r))) (filter_map-append loss_of xs ys) ∙ sum_by-append (share c (Some r)) (filter_map loss_of xs) (filter_map loss_of ys)

pub flushed-append : (c : Category) (r : Reason) (xs ys : List StepAnswer) → flushed c r (xs ++ ys) ≡ flushed c r xs + flushed c r ys
unfolding flushed
flushed-append c r xs ys =
    let quantity : Report → ℕ = λ given. report_sum c r given.items in
    ap (sum_by quantity) (filter_map-append report_of xs ys) ∙ sum_by-append quantity (filter_map report_of xs) (filter_map report_of ys)

-- ---- what is held after one more entry

module _ (start : Quantities) (c : Category) (r : Reason) where
  pub kept_on : (history : List Entry) (entry : Entry) → is_flush entry ≡ false
      → held_after start (history ++ entry ∷ []) c r ≡ held_after start history c r + accepted c r (entry ∷ [])
  unfolding held_after
  kept_on history entry is =
      let any : list_any is_flush (history ++ entry ∷ []) ≡ list_any is_flush history =
      list_any-append is_flush history (entry ∷ []) ∙ (ap (λ (b : Bool). list_any is_flush history || (b || false)) is ∙ or_false (list_any is_flush history)) in
      let last = ap (accepted c r) (after_last_push_no is_flush history entry is) ∙ accepted-append c r (after_last is_flush history) (entry ∷ []) in
      let all = accepted-append c r history (entry ∷ []) in
      ap (λ (b : Bool). if b then accepted c r (after_last is_flush (history ++ entry ∷ [])) else start c r + accepted c r (history ++ entry ∷ [])) any
      ∙ go (list_any is_flush history) last all
    where
      or_false : (b : Bool) → (b || (false || false)) ≡ b
      or_false true = refl
      or_false false = refl

      go : (b : Bool) → accepted c r (after_last is_flush (history ++ entry ∷ [])) ≡ accepted c r (after_last is_flush history) + accepted c r (entry ∷ [])
          → accepted c r (history ++ entry ∷ []) ≡ accepted c r history + accepted c r (entry ∷ [])
          → (if b then accepted c r (after_last is_flush (history ++ entry ∷ [])) else start c r + accepted c r (history ++ entry ∷ []))
          ≡ (if b then accepted c r (after_last is_flush history) else start c r + accepted c r history) + accepted c r (entry ∷ [])
      go true last all = last
      go false last all = omega (arith, all)

  emptied_by : (history : List Entry) (entry : Entry) → is_flush entry ≡ true → held_after start (history ++ entry ∷ []) c r ≡ 0
  unfolding held_after accepted
  emptied_by history entry is =
      let any : list_any is_flush (history ++ entry ∷ []) ≡ true =
      list_any-append is_flush history (entry ∷ []) ∙ (ap (λ (b : Bool). list_any is_flush history || (b || false)) is ∙ or_true (list_any is_flush history)) in
      ap (λ (b : Bool). if b then accepted c r (after_last is_flush (history ++ entry ∷ [])) else start c r + accepted c r (history ++ entry ∷ [])) any
      ∙ ap (accepted c r) (after_last_push_yes is_flush history entry is)
    where
      or_true : (b : Bool) → (b || (true || false)) ≡ true
      or_true true = refl
      or_true false = refl

-- what is held while nothing happens
pub held_yet : (held : Quantities) (c : Category) (r : Reason) → held_after held [] c r ≡ held c r
unfolding held_after accepted
held_yet held c r = omega arith

-- what is held after one entry, from what was held before it
pub held_next : (start : Quantities) (history : List Entry) (entry : Entry) (before now : Quantities) → ((c : Category) (r : Reason) → before c r ≡ held_after start history c r)
    → ((c : Category) (r : Reason) → now c r ≡ held_after before (entry ∷ []) c r) → (c : Category) (r : Reason) → now c r ≡ held_after start (history ++ entry ∷ []) c r
held_next start history entry before now held next c r = go (is_flush entry) refl
  where
    go : (b : Bool) → is_flush entry ≡ b → now c r ≡ held_after start (history ++ entry ∷ []) c r
    go true is = next c r ∙ (emptied_by before c r [] entry is ∙ sym (emptied_by start c r history entry is))
    go false is =
        next c r ∙ (kept_on before c r [] entry is ∙ (ap (λ (n : ℕ). n + accepted c r (entry ∷ [])) (held_yet before c r ∙ held c r) ∙ sym (kept_on start c r history entry is)))

-- what is held after one history and then another
pub held_after-append : (start : Quantities) (xs ys : List Entry) (c : Category) (r : Reason) → held_after start (xs ++ ys) c r ≡ held_after (held_after start xs) ys c r
held_after-append start xs [] c r = ap (λ (zs : List Entry). held_after start zs c r) (append-nil xs) ∙ sym (held_yet (held_after start xs) c r)
held_after-append start xs (y ∷ ys) c r =
    let before : Quantities = held_after start xs in
    let next = held_next start xs y before (held_after before (y ∷ [])) (λ d s. refl) (λ d s. refl) in
    ap (λ (zs : List Entry). held_after start zs c r) (sym (append_assoc xs (y ∷ []) ys))
    ∙ (held_after-append start (xs ++ y ∷ []) ys c r
    ∙ (ap (λ (held : Quantities). held_after held ys c r) (λ i. λ d s. sym (next d s) i)
    ∙ sym (held_after-append before (y ∷ []) ys c r)))

-- ---- histories

pub history_none : (start : Quantities) → IsHistory start []
history_none start [] after entry is = cc
history_none start (first ∷ before) after entry is = cc

pub history_one : (start : Quantities) (entry : Entry) → IsAnswered start entry → IsHistory start (entry ∷ [])
history_one start entry answered [] after next is =
    let same : entry ≡ next = cc in
    let yet : start ≡ held_after start [] = λ i. λ c r. sym (held_yet start c r) i in
    subst (λ (held : Quantities). IsAnswered held next) yet (subst (λ (e : Entry). IsAnswered start e) same answered)
history_one start entry answered (first ∷ []) after next is = absurd (cc)
history_one start entry answered (first ∷ second ∷ before) after next is = absurd (cc)

-- an element stands in the first list or in the second
parted : {A : Type 0} (xs ys before after : List A) (y : A) → xs ++ ys ≡ before ++ y ∷ after
    → ((rest : List A) × (xs ≡ before ++ y ∷ rest)) ⊎ ((more : List A) × (before ≡ xs ++ more) × (ys ≡ more ++ y ∷ after))
parted [] ys before after y is = inr (before, refl, is)
parted (a ∷ xs) ys [] after y is = inl (xs, cc)
parted {A} (a ∷ xs) ys (b ∷ before) after y is =
    let same : a ≡ b = cc in
    go same (parted xs ys before after y (cc))
  where
    go : a ≡ b → ((rest : List A) × (xs ≡ before ++ y ∷ rest)) ⊎ ((more : List A) × (before ≡ xs ++ more) × (ys ≡ more ++ y ∷ after))
        → ((rest : List A) × (a ∷ xs ≡ (b ∷ before) ++ y ∷ rest)) ⊎ ((more : List A) × (b ∷ before ≡ (a ∷ xs) ++ more) × (ys ≡ more ++ y ∷ after))
    go same (inl (rest, first)) = inl (rest, cc)
    go same (inr (more, before_is, second)) = inr (more, cc, second)

-- a history goes on from what is held after it
pub history_append : (start : Quantities) (xs ys : List Entry) → IsHistory start xs → IsHistory (held_after start xs) ys → IsHistory start (xs ++ ys)
history_append start xs ys first second before after entry is = go (parted xs ys before after entry is)
  where
    go : ((rest : List Entry) × (xs ≡ before ++ entry ∷ rest)) ⊎ ((more : List Entry) × (before ≡ xs ++ more) × (ys ≡ more ++ entry ∷ after)) → IsAnswered (held_after start before) entry
    go (inl (rest, here)) = first before rest entry here
    go (inr (more, before_is, here)) =
        let same : held_after (held_after start xs) more ≡ held_after start (xs ++ more) = λ i. λ c r. sym (held_after-append start xs more c r) i in
        rw before_is (subst (λ (held : Quantities). IsAnswered held entry) same (second more after entry here))

pub zip-append : {A B : Type 0} (xs : List A) (ys : List B) (xs' : List A) (ys' : List B) → length ys ≡ length xs → zip (xs ++ xs') (ys ++ ys') ≡ zip xs ys ++ zip xs' ys'
zip-append [] [] xs' ys' same = refl
zip-append [] (b ∷ ys) xs' ys' same = absurd (omega arith)
zip-append (a ∷ xs) [] xs' ys' same = absurd (omega arith)
zip-append {A} {B} (a ∷ xs) (b ∷ ys) xs' ys' same = ap (λ (zs : List (A × B)). (a, b) ∷ zs) (zip-append xs ys xs' ys' (omega arith))

-- ---- one entry

-- what is held after a loss is recorded in a row
pub held_recorded : (row : List ℕ) (loss : ItemLoss) (given : Reason) (at sum : ℕ) → length row ≡ PAIRS → at ≡ pair_place loss.category (reason_for loss given) → sum ≡ get_or row at 0 + loss.quantity
    → (c : Category) (r : Reason) → get_or (set row at sum) (pair_place c r) 0 ≡ held_after (λ d s. get_or row (pair_place d s) 0) ((Add loss given, Accepted) ∷ []) c r
unfolding held_after accepted
held_recorded row loss given at sum long here is c r = let more = row_more row loss given c r long in rw (is, here) (more ∙ omega arith)

-- where nothing is recorded and nothing reported, as much is held as before
pub held_still : (held : Quantities) (entry : Entry) → loss_of entry ≡ None → is_flush entry ≡ false → (c : Category) (r : Reason) → held c r ≡ held_after held (entry ∷ []) c r
unfolding accepted
held_still held entry none no_flush c r =
    sym (kept_on held c r [] entry no_flush ∙ (ap (λ (o : Option ItemLoss). held_after held [] c r + lost c (Some r) (cons_option o [])) none ∙ (omega (arith, held_yet held c r))))

pub held_unreported : (held : Quantities) (now : Moment) (result : Result (Option Report) AllocError) → IsErr result → (c : Category) (r : Reason)
    → held c r ≡ held_after held (entry_of_flush now result ∷ []) c r
held_unreported held now (Ok given) failed c r = absurd (cc)
held_unreported held now (Err refused) failed c r = held_still held (Flush now, NoMemory) refl refl c r

pub held_reported : (held : Quantities) (now : Moment) (given : Report) (c : Category) (r : Reason) → held_after held ((Flush now, Flushed given) ∷ []) c r ≡ 0
held_reported held now given c r = emptied_by held c r [] (Flush now, Flushed given) refl

-- what is held and what an entry accepts is reported or held
pub conserved_kept : (old new : Quantities) (step : Step) (answer : StepAnswer) → report_of answer ≡ None → ((c : Category) (r : Reason) → new c r ≡ held_after old ((step, answer) ∷ []) c r)
    → (c : Category) (r : Reason) → flushed c r (answer ∷ []) + new c r ≡ old c r + accepted c r ((step, answer) ∷ [])
unfolding flushed
conserved_kept old new step answer none held c r =
    let no_flush : is_flush (step, answer) ≡ false = ap (λ (o : Option Report). is_some o) none in
    let more = kept_on old c r [] (step, answer) no_flush in
    rw none (omega (arith, held c r, more, held_yet old c r))

pub conserved_reported : (old new : Quantities) (now : Moment) (given : Report) → ((c : Category) (r : Reason) → new c r ≡ held_after old ((Flush now, Flushed given) ∷ []) c r)
    → ((c : Category) (r : Reason) → report_sum c r given.items ≡ old c r) → (c : Category) (r : Reason) → flushed c r (Flushed given ∷ []) + new c r ≡ old c r + accepted c r ((Flush now, Flushed given) ∷ [])
unfolding flushed accepted
conserved_reported old new now given held sums c r = omega (arith, held c r, held_reported old now given c r, sums c r)
