-- What a list of losses sums to: where the sums stand in a row, and which loss counts for which.
use Rattle.std.proofs.Common.{arith, ◌≡◌, ℕ, ◌+◌, ◌<◌, ◌≢◌, Bool, true, false, ◌&&◌, List, ◌∷◌, if◌then◌else◌, ◌==◌, refl, Option, Some, None, lit<, eq-eqb}
use Rattle.std.proofs.lemmas.List.Sums.{sum_by-cons}
use Rattle.std.proofs.lemmas.Bool.{eqb-true}
use Rattle.sentry_reports.specs.Categories.{category_index, reason_index}
use Rattle.sentry_reports.specs.Sums.{reason_place, place, is_loss_of, lost}
use Rattle.sentry_reports.specs.declared.category.Category.{Category}
use Rattle.sentry_reports.specs.declared.category.Category.TheVariants as category
use Rattle.sentry_reports.specs.declared.item_loss.ItemLoss.{ItemLoss}
use Rattle.sentry_reports.specs.declared.reason.Reason.{Reason}
use Rattle.sentry_reports.specs.declared.reason.Reason.TheVariants as reason

pub category_below : (c : Category) → category_index c < 12
category_below category.Error = lit< tt
category_below _ = lit< tt

pub reason_below : (r : Reason) → reason_index r < 9
reason_below reason.SendError = lit< tt
reason_below _ = lit< tt

pub reason_place_below : (r : Option Reason) → reason_place r < 10
reason_place_below None = lit< tt
reason_place_below (Some r) = let below = reason_below r in omega (arith, below)

-- what a loss adds to a sum
abbrev pub share : Category → Option Reason → ItemLoss → ℕ
share c r loss = if is_loss_of c r loss then loss.quantity else 0

pub place_below : (c : Category) (r : Option Reason) → place c r < 120
place_below c r = omega (arith, category_below c, reason_place_below r)

-- two places are equal where the category and the reason are
one_place : (c d : Category) (r s : Option Reason) → place d s ≡ place c r → (category_index d ≡ category_index c) × (reason_place s ≡ reason_place r)
one_place c d r s e = (omega (arith, reason_place_below r, reason_place_below s), omega (arith, reason_place_below r, reason_place_below s))

-- a loss is of the sum at its place
pub share_here : (c : Category) (r : Option Reason) (loss : ItemLoss) → place loss.category loss.reason ≡ place c r → share c r loss ≡ loss.quantity
share_here c r loss e =
    let same = one_place c loss.category r loss.reason e in
    rw (eqb_refl_at same.0, eqb_refl_at same.1) refl
  where
    eqb_refl_at : {a b : ℕ} → a ≡ b → (a == b) ≡ true
    eqb_refl_at {a} {b} e = eq-eqb a b e

-- and of no other
pub share_elsewhere : (c : Category) (r : Option Reason) (loss : ItemLoss) → place c r ≢ place loss.category loss.reason → share c r loss ≡ 0
share_elsewhere c r loss ne = go (category_index loss.category == category_index c) (reason_place loss.reason == reason_place r) refl refl
  where
    go : (a b : Bool) → (category_index loss.category == category_index c) ≡ a → (reason_place loss.reason == reason_place r) ≡ b → (if a && b then loss.quantity else 0) ≡ 0
    go true true p q = absurd (ne (let e = eqb-true _ _ p in let f = eqb-true _ _ q in omega arith))
    go true false p q = refl
    go false b p q = refl

pub lost-cons : (c : Category) (r : Option Reason) (loss : ItemLoss) (losses : List ItemLoss) → lost c r (loss ∷ losses) ≡ share c r loss + lost c r losses
lost-cons c r loss losses = sum_by-cons (share c r) loss losses
