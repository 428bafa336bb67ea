-- What a ledger holds, and what the items of a report of it sum to.
use Rattle.std.proofs.Common.{arith, ◌≡◌, ℕ, zero, suc, ◌+◌, ◌-◌, ◌^◌, ◌<◌, ◌≤◌, ◌≢◌, ◌⊎◌, inl, inr, min, Bool, true, false, ◌&&◌, if◌then◌else◌, List, [], ◌∷◌, length, sum_by, ◌==◌, get_or, set, replicate, Option, Some, refl, ap, sym, ◌∙◌, get_or-set_same, get_or-set_other}
use Rattle.std.proofs.lemmas.Bool.{eqb-true, ne_eqb, eq-eqb}
use Rattle.std.proofs.lemmas.Bool.Decides.{eqb_tells}
use Rattle.std.proofs.lemmas.List.{get_or-replicate, map-append}
use Rattle.std.proofs.lemmas.List.Sums.{sum_by-append, sum_by-cons}
use Rattle.std.specs.List.{EachIndex, flat_map, slice_get}
use Rattle.sentry_reports.specs.Categories.{categories, category_index, category_in_place, reasons, reason_index, reason_in_place}
use Rattle.sentry_reports.specs.Items.{item_loss, losses_reported}
use Rattle.sentry_reports.specs.ReportSums.{pair_place, report_sum}
use Rattle.sentry_reports.specs.Sums.{lost}
use Rattle.sentry_reports.specs.declared.category.Category.{Category}
use Rattle.sentry_reports.specs.declared.item.Item.{Item}
use Rattle.sentry_reports.specs.declared.item_loss.ItemLoss.{ItemLoss}
use Rattle.sentry_reports.specs.declared.kept_sums.TheConstants.{PAIRS}
use Rattle.sentry_reports.specs.declared.reason.Reason.{Reason}
use Rattle.sentry_reports.proofs.ReportSums.{pair_below, same_place, other_place, pair_at}
use Rattle.sentry_reports.proofs.Sums.{share, share_here, share_elsewhere}
use Rattle.sentry_reports.proofs.Words.{CountsUp, categories_count_up, reasons_count_up}
use Rattle.sentry_ledger.specs.Held.{Quantities, reason_for, recorded_loss, items_of_pair, items_of_category, items_held}

-- ---- recording

-- in a row, what is held of a pair with one more loss
pub row_more : (row : List ℕ) (loss : ItemLoss) (given : Reason) (c : Category) (r : Reason) → length row ≡ PAIRS
    → get_or (set row (pair_place loss.category (reason_for loss given)) (get_or row (pair_place loss.category (reason_for loss given)) 0 + loss.quantity)) (pair_place c r) 0
    ≡ get_or row (pair_place c r) 0 + share c (Some r) (recorded_loss loss given)
row_more row loss given c r long = go (eqb_tells (pair_place c r) at)
  where
    at : ℕ
    at = pair_place loss.category (reason_for loss given)

    go : (((pair_place c r == at) ≡ true) × (pair_place c r ≡ at)) ⊎ (((pair_place c r == at) ≡ false) × (pair_place c r ≢ at))
        → get_or (set row at (get_or row at 0 + loss.quantity)) (pair_place c r) 0 ≡ get_or row (pair_place c r) 0 + share c (Some r) (recorded_loss loss given)
    go (inl here) =
        let within : at < length row = omega (arith, pair_below loss.category (reason_for loss given)) in
        let adds = share_here c (Some r) (recorded_loss loss given) (same_place c loss.category r (reason_for loss given) here.1) in
        ap (λ (n : ℕ). get_or (set row at (get_or row at 0 + loss.quantity)) n 0) here.1 ∙ get_or-set_same row at _ 0 within
        ∙ sym (ap (λ (n : ℕ). get_or row n 0 + share c (Some r) (recorded_loss loss given)) here.1 ∙ ap (λ (n : ℕ). get_or row at 0 + n) adds)
    go (inr elsewhere) =
        let adds = share_elsewhere c (Some r) (recorded_loss loss given) (other_place c loss.category r (reason_for loss given) elsewhere.1) in
        get_or-set_other row at (pair_place c r) _ 0 elsewhere.1 ∙ sym (ap (λ (n : ℕ). get_or row (pair_place c r) 0 + n) adds ∙ omega arith)

-- a row of zeros holds nothing
pub no_row : (c : Category) (r : Reason) → get_or (replicate {A = ℕ} PAIRS 0) (pair_place c r) 0 ≡ 0
no_row c r = get_or-replicate PAIRS (pair_place c r) 0 0 (pair_below c r)

-- ---- sums over lists in order

-- what is taken of an element at one index alone
abbrev at_index : {A : Type 0} → (A → ℕ) → ℕ → (A → ℕ) → A → ℕ
at_index index t quantity x = if index x == t then quantity x else 0

sum_past : {A : Type 0} (index : A → ℕ) (quantity : A → ℕ) (t i : ℕ) (xs : List A) → CountsUp index i xs → t < i → sum_by (at_index index t quantity) xs ≡ 0
sum_past index quantity t i [] ordered past = refl
sum_past index quantity t i (x ∷ xs) ordered past =
    let other : index x ≢ t = omega (arith, ordered.0) in
    let rest : sum_by (at_index index t quantity) xs ≡ 0 = sum_past index quantity t (suc i) xs ordered.1 (omega arith) in
    sum_by-cons (at_index index t quantity) x xs
    ∙ (ap (λ (b : Bool). (if b then quantity x else 0) + sum_by (at_index index t quantity) xs) (ne_eqb (index x) t other) ∙ omega (arith, rest))

sum_at : {A : Type 0} (index : A → ℕ) (quantity : A → ℕ) (t i k : ℕ) (xs : List A) (x : A) → CountsUp index i xs → t ≡ i + k → slice_get xs k ≡ Some x
    → sum_by (at_index index t quantity) xs ≡ quantity x
sum_at index quantity t i k [] x ordered at found = cc
sum_at index quantity t i zero (y ∷ ys) x ordered at found =
    let here : index y ≡ t = omega (arith, ordered.0) in
    let same : y ≡ x = cc in
    let rest : sum_by (at_index index t quantity) ys ≡ 0 = sum_past index quantity t (suc i) ys ordered.1 (omega arith) in
    sum_by-cons (at_index index t quantity) y ys
    ∙ (ap (λ (b : Bool). (if b then quantity y else 0) + sum_by (at_index index t quantity) ys) (eq-eqb (index y) t here)
    ∙ omega (arith, rest, ap quantity same))
sum_at index quantity t i (suc k) (y ∷ ys) x ordered at found =
    let other : index y ≢ t = omega (arith, ordered.0) in
    let rest : sum_by (at_index index t quantity) ys ≡ quantity x = sum_at index quantity t (suc i) k ys x ordered.1 (omega arith) found in
    sum_by-cons (at_index index t quantity) y ys
    ∙ (ap (λ (b : Bool). (if b then quantity y else 0) + sum_by (at_index index t quantity) ys) (ne_eqb (index y) t other) ∙ omega (arith, rest))

sum_nothing : {A : Type 0} (xs : List A) → sum_by (λ (x : A). 0) xs ≡ 0
sum_nothing [] = refl
sum_nothing (x ∷ xs) = sum_nothing xs

-- ---- pairs in order

-- nothing is held exactly where each quantity in the row is 0
pub zeros_hold_nothing : (row : List ℕ) → length row ≡ PAIRS → EachIndex row (λ k. get_or row k 0 ≡ 0) → (c : Category) (r : Reason) → get_or row (pair_place c r) 0 ≡ 0
zeros_hold_nothing row long zeros c r = zeros (pair_place c r) (omega (arith, pair_below c r))

pub nothing_is_zeros : (row : List ℕ) → length row ≡ PAIRS → ((c : Category) (r : Reason) → get_or row (pair_place c r) 0 ≡ 0) → EachIndex row (λ k. get_or row k 0 ≡ 0)
nothing_is_zeros row long nothing k within = go (pair_at k (omega (arith, long)))
  where
    go : (c : Category) × (r : Reason) × (pair_place c r ≡ k) → get_or row k 0 ≡ 0
    go (c, r, here) = ap (λ (n : ℕ). get_or row n 0) (sym here) ∙ nothing c r

-- ---- what the items sum to

lost-flat_map : {A : Type 0} (c : Category) (r : Option Reason) (items : A → List Item) (xs : List A)
    → lost c r (losses_reported (flat_map items xs)) ≡ sum_by (λ x. lost c r (losses_reported (items x))) xs
lost-flat_map c r items [] = refl
lost-flat_map c r items (x ∷ xs) =
    ap (lost c r) (map-append item_loss (items x) (flat_map items xs))
    ∙ sum_by-append (share c r) (losses_reported (items x)) (losses_reported (flat_map items xs))
    ∙ ap (λ (n : ℕ). lost c r (losses_reported (items x)) + n) (lost-flat_map c r items xs)
    ∙ sym (sum_by-cons (λ y. lost c r (losses_reported (items y))) x xs)

-- an item of quantity 0 is as none
one_or_none : (c : Category) (r : Option Reason) (item : Item)
    → lost c r (losses_reported (if item.quantity == 0 then [] else item ∷ [])) ≡ share c r (item_loss item)
one_or_none c r item = go (item.quantity == 0) refl
  where
    none : (b : Bool) → item.quantity ≡ 0 → 0 ≡ (if b then item.quantity else 0)
    none true is = sym is
    none false is = refl

    go : (b : Bool) → (item.quantity == 0) ≡ b → lost c r (losses_reported (if b then [] else item ∷ [])) ≡ share c r (item_loss item)
    go true is = none _ (eqb-true _ _ is)
    go false is = omega arith

same_test : (a b : ℕ) → (a + 1 == b + 1) ≡ (a == b)
same_test a b = go (eqb_tells a b)
  where
    go : (((a == b) ≡ true) × (a ≡ b)) ⊎ (((a == b) ≡ false) × (a ≢ b)) → (a + 1 == b + 1) ≡ (a == b)
    go (inl same) = eq-eqb (a + 1) (b + 1) (omega (arith, same.1)) ∙ sym same.0
    go (inr other) = ne_eqb (a + 1) (b + 1) (λ e. other.1 (omega (arith, e))) ∙ sym other.0

both : (a b : Bool) (n : ℕ) → (if a && b then n else 0) ≡ (if a then (if b then n else 0) else 0)
both true b n = refl
both false b n = refl

-- what the item of a pair adds to the sum of a pair
of_pair : (held : Quantities) (c : Category) (r : Reason) (d : Category) (s : Reason)
    → lost c (Some r) (losses_reported (items_of_pair held d s))
    ≡ (if category_index d == category_index c then at_index reason_index (reason_index r) (held d) s else 0)
of_pair held c r d s =
    one_or_none c (Some r) (record { category = d; reason = s; quantity = held d s })
    ∙ (ap (λ (b : Bool). if (category_index d == category_index c) && b then held d s else 0) (same_test (reason_index s) (reason_index r))
    ∙ both (category_index d == category_index c) (reason_index s == reason_index r) (held d s))

of_category : (held : Quantities) (c : Category) (r : Reason) (d : Category)
    → lost c (Some r) (losses_reported (items_of_category held d)) ≡ at_index category_index (category_index c) (λ (e : Category). held e r) d
unfolding items_of_category
of_category held c r d =
    lost-flat_map c (Some r) (items_of_pair held d) reasons
    ∙ (ap (λ (f : Reason → ℕ). sum_by f reasons) (λ i. λ s. of_pair held c r d s i) ∙ go (category_index d == category_index c))
  where
    go : (b : Bool) → sum_by (λ (s : Reason). if b then at_index reason_index (reason_index r) (held d) s else 0) reasons ≡ (if b then held d r else 0)
    go true = sum_at reason_index (held d) (reason_index r) 0 (reason_index r) reasons r reasons_count_up (omega arith) (reason_in_place r)
    go false = sum_nothing reasons

-- the items of what is held sum to what is held
pub lost_held : (held : Quantities) (c : Category) (r : Reason) → lost c (Some r) (losses_reported (items_held held)) ≡ held c r
unfolding items_held
lost_held held c r =
    lost-flat_map c (Some r) (items_of_category held) categories
    ∙ (ap (λ (f : Category → ℕ). sum_by f categories) (λ i. λ d. of_category held c r d i)
    ∙ sum_at category_index (λ (e : Category). held e r) (category_index c) 0 (category_index c) categories c categories_count_up (omega arith) (category_in_place c))

pub sum_held : (held : Quantities) (c : Category) (r : Reason) → held c r ≤ 2 ^ 64 - 1 → report_sum c r (items_held held) ≡ held c r
unfolding report_sum
sum_held held c r bounded = let is = lost_held held c r in ap (λ (n : ℕ). min n (2 ^ 64 - 1)) is ∙ omega (arith, bounded)
