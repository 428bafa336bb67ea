-- Reports that are alike: by their moments and their sums.
use Rattle.std.proofs.Common.{arith, rules, ◌≡◌, ℕ, ◌-◌, ◌+◌, ◌^◌, min, Bool, true, false, if◌then◌else◌, List, sum_by, ◌∷◌, ◌++◌, Some, refl, sym, ap, ◌∙◌, Decides}
use Rattle.std.proofs.lemmas.Bool.Decides.{Decides-and, Decides-eqb}
use Rattle.std.proofs.lemmas.List.{map-append}
use Rattle.std.proofs.lemmas.List.Sorted.{sum_by-IsPermutation, IsPermutation-map}
use Rattle.std.proofs.lemmas.List.Sums.{sum_by-append, sum_by-cons}
use Rattle.std.proofs.lemmas.Slice.Eq.{slice_eq-Decides}
use Rattle.std.specs.List.Sorted.{IsPermutation}
use Rattle.sentry_moments.specs.Moments.{moment_cell}
use Rattle.sentry_moments.specs.contracts.moment.MomentPartialEq.TheImpl.{eq-value as of_moments}
use Rattle.sentry_moments.specs.declared.moment.Moment.{Moment}
use Rattle.sentry_reports.specs.Items.{item_loss, losses_reported}
use Rattle.sentry_reports.specs.ReportSums.{report_sum, all_sums}
use Rattle.sentry_reports.specs.Reports.{AreReportsAlike, report}
use Rattle.sentry_reports.specs.Sums.{is_loss_of, lost}
use Rattle.sentry_reports.specs.contracts.report.ReportPartialEq.TheImpl.{eq-value as of_reports}
use Rattle.sentry_reports.specs.declared.category.Category.{Category}
use Rattle.sentry_reports.specs.declared.item.Item.{Item}
use Rattle.sentry_reports.specs.declared.reason.Reason.{Reason}
use Rattle.sentry_reports.specs.declared.report.Report.{Report}
use Rattle.sentry_reports.proofs.ReportSums.{same_rows, same_sums}
use Rattle.sentry_reports.proofs.Sums.{share}

-- ---- what `==` says

moments_decide : (a b : Moment) → Decides (of_moments.it a b) (moment_cell a ≡ moment_cell b)
moments_decide a b = search rules

pub reports_decide : (a b : Report) → Decides (of_reports.it a b) (AreReportsAlike a b)
reports_decide a b =
    let parts = Decides-and _ _ (moments_decide a.timestamp b.timestamp) (slice_eq-Decides Decides-eqb (all_sums a.items) (all_sums b.items) _ refl) in (
      λ same. record { moments = (parts.0 same).0; sums = same_sums a.items b.items (parts.0 same).1 },
      λ alike. parts.1 (alike.moments, same_rows a.items b.items alike.sums),
    )

-- ---- an equivalence

pub alike_itself : (a : Report) → AreReportsAlike a a
alike_itself a = record { moments = refl; sums = λ c r. refl }

pub alike_turned : (a b : Report) → AreReportsAlike a b → AreReportsAlike b a
alike_turned a b h = record { moments = sym h.moments; sums = λ c r. sym (h.sums c r) }

pub alike_chained : (a b c : Report) → AreReportsAlike a b → AreReportsAlike b c → AreReportsAlike a c
alike_chained a b c h k = record { moments = h.moments ∙ k.moments; sums = λ category reason. h.sums category reason ∙ k.sums category reason }

-- ---- what doesn't count

-- the order of the items
pub alike_in_any_order : (moment : Moment) (xs ys : List Item) → IsPermutation xs ys → AreReportsAlike (report moment xs) (report moment ys)
unfolding report_sum
alike_in_any_order moment xs ys moved = record {
  moments = refl;
  sums = λ c r. ap (λ (n : ℕ). min n (2 ^ 64 - 1)) (sym (sum_by-IsPermutation (share c (Some r)) (losses_reported xs) (losses_reported ys) (IsPermutation-map item_loss xs ys moved)));
}

-- an item of quantity 0 adds nothing to a sum
no_share : (c : Category) (r : Reason) (item : Item) → item.quantity ≡ 0 → share c (Some r) (item_loss item) ≡ 0
no_share c r item none = go (is_loss_of c (Some r) (item_loss item))
  where
    go : (b : Bool) → (if b then item.quantity else 0) ≡ 0
    go true = none
    go false = refl

lost_without : (c : Category) (r : Reason) (xs ys : List Item) (item : Item) → item.quantity ≡ 0
    → lost c (Some r) (losses_reported (xs ++ item ∷ ys)) ≡ lost c (Some r) (losses_reported (xs ++ ys))
lost_without c r xs ys item none =
    let shares = share c (Some r) in
    let front = losses_reported xs in
    let back = losses_reported ys in
    ap (sum_by shares) (map-append item_loss xs (item ∷ ys)) ∙ sum_by-append shares front (item_loss item ∷ back)
    ∙ ap (λ (n : ℕ). sum_by shares front + n) (sum_by-cons shares (item_loss item) back ∙ ap (λ (n : ℕ). n + sum_by shares back) (no_share c r item none) ∙ omega arith)
    ∙ sym (ap (sum_by shares) (map-append item_loss xs ys) ∙ sum_by-append shares front back)

pub alike_without_nothing : (moment : Moment) (xs ys : List Item) (item : Item) → item.quantity ≡ 0
    → AreReportsAlike (report moment (xs ++ item ∷ ys)) (report moment (xs ++ ys))
unfolding report_sum
alike_without_nothing moment xs ys item none = record {
  moments = refl;
  sums = λ c r. ap (λ (n : ℕ). min n (2 ^ 64 - 1)) (lost_without c r xs ys item none);
}
