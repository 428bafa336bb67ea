-- The sums of losses that are added one by one.
use Rattle.std.proofs.Common.{arith, ◌≡◌, ℕ, ◌+◌, ◌-◌, ◌^◌, ◌<◌, ◌≤◌, ◌≢◌, min, Bool, true, false, List, [], ◌∷◌, length, fold, take, get_or, ◌==◌, ◌⊎◌, inl, inr, refl, ap, subst, sym, ◌∙◌, Option, get_or-set_same, get_or-set_other}
use Rattle.std.proofs.lemmas.List.{length-set, length-replicate, get_or-replicate, take_all}
use Rattle.std.proofs.lemmas.Bool.Decides.{eqb_tells}
use Rattle.sentry_reports.specs.Sums.{place, lost}
use Rattle.sentry_reports.specs.declared.category.Category.{Category}
use Rattle.sentry_reports.specs.declared.item_loss.ItemLoss.{ItemLoss}
use Rattle.sentry_reports.specs.declared.reason.Reason.{Reason}
use Rattle.sentry_reports.proofs.Sums.{share, place_below, share_here, share_elsewhere, lost-cons}
use Rattle.sentry_ledger.specs.LossSums.{SumsLosses, add_loss, no_sums, sum_at}
use Rattle.sentry_ledger.specs.declared.loss_sums.LossSums.{LossSums}
use Rattle.sentry_ledger.specs.declared.loss_sums.TheConstants.{SUMS}

-- what one more loss adds to a sum
added : (c : Category) (r : Option Reason) (loss : ItemLoss) (sums : LossSums) → length sums.row ≡ SUMS → sum_at sums c r ≤ 2 ^ 64 - 1
    → sum_at (add_loss sums loss) c r ≡ min (sum_at sums c r + share c r loss) (2 ^ 64 - 1)
added c r loss sums long small = go (eqb_tells (place c r) (place loss.category loss.reason))
  where
    go : (((place c r == place loss.category loss.reason) ≡ true) × (place c r ≡ place loss.category loss.reason)) ⊎ (((place c r == place loss.category loss.reason) ≡ false) × (place c r ≢ place loss.category loss.reason))
        → sum_at (add_loss sums loss) c r ≡ min (sum_at sums c r + share c r loss) (2 ^ 64 - 1)
    go (inl here) =
        let within : place loss.category loss.reason < length sums.row = omega (arith, place_below loss.category loss.reason) in
        rw (here.1, get_or-set_same, share_here c r loss (sym here.1)) refl
    go (inr elsewhere) =
        let other = elsewhere.1 in
        rw (share_elsewhere c r loss other, get_or-set_other) (omega arith)

cut : (m a x l t : ℕ) → t ≡ x + l → min (min (a + x) m + l) m ≡ min (a + t) m
cut m a x l t e = omega arith

summed : (losses : List ItemLoss) (sums : LossSums) (c : Category) (r : Option Reason) → length sums.row ≡ SUMS → sum_at sums c r ≤ 2 ^ 64 - 1
    → sum_at (fold add_loss sums losses) c r ≡ min (sum_at sums c r + lost c r losses) (2 ^ 64 - 1)
summed [] sums c r long small = omega arith
summed (loss ∷ losses) sums c r long small =
    let one = added c r loss sums long small in
    let rest = summed losses (add_loss sums loss) c r (length-set sums.row _ _ ∙ long) (rw one (omega arith)) in
    rest ∙ rw one (cut (2 ^ 64 - 1) (sum_at sums c r) (share c r loss) (lost c r losses) (lost c r (loss ∷ losses)) (lost-cons c r loss losses))

long_summed : (losses : List ItemLoss) (sums : LossSums) → length (fold add_loss sums losses).row ≡ length sums.row
long_summed [] sums = refl
long_summed (loss ∷ losses) sums = long_summed losses (add_loss sums loss) ∙ length-set sums.row _ _

-- from nothing, each sum is that of the losses
pub sums_losses : (sums : LossSums) (losses : List ItemLoss) → sums.row ≡ no_sums → SumsLosses (fold add_loss sums losses) losses
sums_losses sums losses none =
    let long : length sums.row ≡ SUMS = ap length none ∙ length-replicate {A = ℕ} SUMS 0 in
    let start : (c : Category) (r : Option Reason) → sum_at sums c r ≡ 0 =
    λ c r. ap (λ (row : List ℕ). get_or row (place c r) 0) none ∙ get_or-replicate SUMS (place c r) 0 0 (place_below c r) in
    record {
      long = long_summed losses sums ∙ long;
      each = λ c r. summed losses sums c r long (omega (arith, start c r)) ∙ omega (arith, start c r);
    }

-- sums to which all losses were added, from nothing
pub all_summed : (sums : LossSums) (losses : List ItemLoss) (n : ℕ) → length losses ≤ n → sums ≡ fold add_loss (record { row = no_sums }) (take n losses) → SumsLosses sums losses
all_summed sums losses n all is =
    let added : sums ≡ fold add_loss (record { row = no_sums }) losses = is ∙ ap (fold add_loss (record { row = no_sums })) (take_all n losses all) in
    subst (λ (s : LossSums). SumsLosses s losses) (sym added) (sums_losses (record { row = no_sums }) losses refl)
