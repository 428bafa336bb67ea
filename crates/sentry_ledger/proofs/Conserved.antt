-- Nothing that is accepted in a history is lost.
use Rattle.std.proofs.Common.{arith, ◌≡◌, ℕ, ◌+◌, ◌-◌, ◌^◌, ◌≤◌, ◌≢◌, ◌⊎◌, inl, inr, true, false, ◌==◌, List, [], ◌∷◌, Some, refl, ap, subst, ◌∙◌}
use Rattle.std.proofs.lemmas.Bool.Decides.{eqb_tells}
use Rattle.sentry_reports.specs.ReportSums.{pair_place, report_sum}
use Rattle.sentry_reports.specs.declared.category.Category.{Category}
use Rattle.sentry_reports.specs.declared.item_loss.ItemLoss.{ItemLoss}
use Rattle.sentry_reports.specs.declared.reason.Reason.{Reason}
use Rattle.sentry_reports.specs.declared.report.Report.{Report}
use Rattle.sentry_reports.proofs.ReportSums.{same_place, other_place}
use Rattle.sentry_reports.proofs.Sums.{reason_below, share_here, share_elsewhere}
use Rattle.sentry_reports.proofs.Words.{category_at_index, reason_at_index}
use Rattle.sentry_ledger.specs.Held.{Quantities, Fits, HasRoom, reason_for, recorded_loss}
use Rattle.sentry_ledger.specs.Histories.{Entry, accepted, answers_of, flushed, held_after, IsAnswered, IsHistory, IsConserved}
use Rattle.sentry_ledger.specs.declared.steps.Step.TheVariants.{Add, Flush}
use Rattle.sentry_ledger.specs.declared.steps.StepAnswer.TheVariants.{Accepted, Refused, Flushed, Nothing, NoMemory}
use Rattle.sentry_ledger.proofs.HeldLemmas.{sum_held}
use Rattle.sentry_ledger.proofs.HistoryLemmas.{accepted-append, flushed-append, held_yet, held_still, held_reported, held_after-append, kept_on, conserved_kept, conserved_reported}

-- ---- one entry

one : (held : Quantities) (entry : Entry) → Fits held → IsAnswered held entry → IsConserved held (entry ∷ [])
one held (Add loss given, Accepted) fits answered = conserved_kept held (held_after held ((Add loss given, Accepted) ∷ [])) (Add loss given) Accepted refl (λ c r. refl)
one held (Add loss given, Refused) fits answered = conserved_kept held (held_after held ((Add loss given, Refused) ∷ [])) (Add loss given) Refused refl (λ c r. refl)
one held (Flush now, Flushed made) fits answered =
    conserved_reported held (held_after held ((Flush now, Flushed made) ∷ [])) now made (λ c r. refl)
    (λ c r. ap (λ (g : Report). report_sum c r g.items) answered.1 ∙ sum_held held c r (fits c r))
one held (Flush now, Nothing) fits answered = conserved_kept held (held_after held ((Flush now, Nothing) ∷ [])) (Flush now) Nothing refl (λ c r. refl)
one held (Flush now, NoMemory) fits answered = conserved_kept held (held_after held ((Flush now, NoMemory) ∷ [])) (Flush now) NoMemory refl (λ c r. refl)
one held (Add loss given, Flushed made) fits answered = absurd answered
one held (Add loss given, Nothing) fits answered = absurd answered
one held (Add loss given, NoMemory) fits answered = absurd answered
one held (Flush now, Accepted) fits answered = absurd answered
one held (Flush now, Refused) fits answered = absurd answered

-- a loss that there is room for
fits_recorded : (held : Quantities) (loss : ItemLoss) (given : Reason) → Fits held → HasRoom held loss given → Fits (held_after held ((Add loss given, Accepted) ∷ []))
unfolding accepted
fits_recorded held loss given fits room c r = go (eqb_tells (pair_place c r) at)
  where
    s : Reason
    s = reason_for loss given

    at : ℕ
    at = pair_place loss.category s

    more : held_after held ((Add loss given, Accepted) ∷ []) c r ≡ held_after held [] c r + accepted c r ((Add loss given, Accepted) ∷ [])
    more = kept_on held c r [] (Add loss given, Accepted) refl

    go : (((pair_place c r == at) ≡ true) × (pair_place c r ≡ at)) ⊎ (((pair_place c r == at) ≡ false) × (pair_place c r ≢ at)) → held_after held ((Add loss given, Accepted) ∷ []) c r ≤ 2 ^ 64 - 1
    go (inl here) =
        let category : c ≡ loss.category = category_at_index c loss.category (omega (arith, here.1, reason_below r, reason_below s)) in
        let reason : r ≡ s = reason_at_index r s (omega (arith, here.1, reason_below r, reason_below s)) in
        let same : held c r ≡ held loss.category s = ap (λ (d : Category). held d r) category ∙ ap (held loss.category) reason in
        let adds = share_here c (Some r) (recorded_loss loss given) (same_place c loss.category r s here.1) in
        omega (arith, more, held_yet held c r, same, adds, room)
    go (inr elsewhere) =
        let adds = share_elsewhere c (Some r) (recorded_loss loss given) (other_place c loss.category r s elsewhere.1) in
        omega (arith, more, held_yet held c r, adds, fits c r)

fits_next : (held : Quantities) (entry : Entry) → Fits held → IsAnswered held entry → Fits (held_after held (entry ∷ []))
fits_next held (Add loss given, Accepted) fits answered = fits_recorded held loss given fits answered
fits_next held (Add loss given, Refused) fits answered = λ c r. omega (arith, held_still held (Add loss given, Refused) refl refl c r, fits c r)
fits_next held (Flush now, Flushed made) fits answered = λ c r. omega (arith, held_reported held now made c r)
fits_next held (Flush now, Nothing) fits answered = λ c r. omega (arith, held_still held (Flush now, Nothing) refl refl c r, fits c r)
fits_next held (Flush now, NoMemory) fits answered = λ c r. omega (arith, held_still held (Flush now, NoMemory) refl refl c r, fits c r)
fits_next held (Add loss given, Flushed made) fits answered = absurd answered
fits_next held (Add loss given, Nothing) fits answered = absurd answered
fits_next held (Add loss given, NoMemory) fits answered = absurd answered
fits_next held (Flush now, Accepted) fits answered = absurd answered
fits_next held (Flush now, Refused) fits answered = absurd answered

-- ---- histories

pub conserved : (start : Quantities) (history : List Entry) → Fits start → IsHistory start history → IsConserved start history
unfolding accepted flushed
conserved start [] fits is c r = omega (arith, held_yet start c r)
conserved start (entry ∷ rest) fits is c r =
    let yet : held_after start [] ≡ start = λ i. λ d s. held_yet start d s i in
    let first : IsAnswered start entry = subst (λ (held : Quantities). IsAnswered held entry) yet (is [] rest entry refl) in
    let next : Quantities = held_after start (entry ∷ []) in
    let later : IsHistory next rest = λ before after e split.
    subst (λ (held : Quantities). IsAnswered held e) (λ i. λ d s. held_after-append start (entry ∷ []) before d s i)
    (is (entry ∷ before) after e (ap (λ (es : List Entry). entry ∷ es) split)) in
    omega (
      arith,
      one start entry fits first c r,
      conserved next rest (fits_next start entry fits first) later c r,
      held_after-append start (entry ∷ []) rest c r,
      flushed-append c r (entry.1 ∷ []) (answers_of rest),
      accepted-append c r (entry ∷ []) rest,
    )
