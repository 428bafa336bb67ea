-- The row of a report's sums: it keeps the sum of each pair, item by item.
use Rattle.std.proofs.Common.{rules, arith, Bool, nat_eq, ◌≡◌, ℕ, zero, suc, ◌+◌, ◌-◌, ◌/◌, ◌%◌, ◌^◌, ◌<◌, ◌≢◌, ◌⊎◌, inl, inr, min, true, false, List, [], ◌∷◌, ◌++◌, length, Some, ◌==◌, get_or, set, replicate, take, refl, ap, sym, ◌∙◌, get_or-set_same, get_or-set_other, length-set}
use Rattle.std.proofs.lemmas.List.{ext_get_or, get_or-replicate, map-append, take_more}
use Rattle.std.specs.Cmp.Lexicographic.{pointwise}
use Rattle.std.proofs.lemmas.List.Sums.{sum_by_push}
use Rattle.std.proofs.lemmas.Bool.Decides.{eqb_tells}
use Rattle.sentry_reports.specs.Categories.{categories, category_index, reasons, reason_index}
use Rattle.sentry_reports.specs.Items.{item_loss, losses_reported}
use Rattle.sentry_reports.specs.ReportSums.{report_sum, pair_place, all_sums, KeepsSums}
use Rattle.sentry_reports.specs.Sums.{place, lost}
use Rattle.sentry_reports.specs.declared.category.Category.TheVariants as category
use Rattle.sentry_reports.specs.declared.reason.Reason.TheVariants as reason
use Rattle.sentry_reports.specs.declared.category.Category.{Category}
use Rattle.sentry_reports.specs.declared.item.Item.{Item}
use Rattle.sentry_reports.specs.declared.kept_sums.TheConstants.{PAIRS}
use Rattle.sentry_reports.specs.declared.reason.Reason.{Reason}
use Rattle.sentry_reports.proofs.Words.{CountsUp, categories_count_up, reasons_count_up}
use Rattle.sentry_reports.proofs.Sums.{share, category_below, reason_below, share_here, share_elsewhere}

pub pair_below : (c : Category) (r : Reason) → pair_place c r < PAIRS
pair_below c r = omega (arith, category_below c, reason_below r)

-- what one more item adds to the sum of a pair, without bound
lost_more : (c : Category) (r : Reason) (items : List Item) (item : Item)
    → lost c (Some r) (losses_reported (items ++ item ∷ [])) ≡ lost c (Some r) (losses_reported items) + share c (Some r) (item_loss item)
lost_more c r items item =
    ap (lost c (Some r)) (map-append item_loss items (item ∷ [])) ∙ sum_by_push (share c (Some r)) (losses_reported items) (item_loss item)

cut : (m lost share : ℕ) → min (lost + share) m ≡ min (min lost m + share) m
cut m lost share = omega arith

-- the same of the sum that is cut
sum_more : (c : Category) (r : Reason) (items : List Item) (item : Item)
    → report_sum c r (items ++ item ∷ []) ≡ min (report_sum c r items + share c (Some r) (item_loss item)) (2 ^ 64 - 1)
unfolding report_sum
sum_more c r items item =
    ap (λ (n : ℕ). min n (2 ^ 64 - 1)) (lost_more c r items item)
    ∙ cut (2 ^ 64 - 1) (lost c (Some r) (losses_reported items)) (share c (Some r) (item_loss item))

capped : (c : Category) (r : Reason) (items : List Item) → min (report_sum c r items + 0) (2 ^ 64 - 1) ≡ report_sum c r items
unfolding report_sum
capped c r items = omega arith

-- a pair whose place is the item's is that of the item
pub same_place : (c d : Category) (r s : Reason) → pair_place c r ≡ pair_place d s → place d (Some s) ≡ place c (Some r)
same_place c d r s e = omega (arith, reason_below r, reason_below s)

pub other_place : (c d : Category) (r s : Reason) → pair_place c r ≢ pair_place d s → place c (Some r) ≢ place d (Some s)
other_place c d r s ne e = ne (omega (arith, reason_below r, reason_below s))

-- nothing is lost with no items
pub keeps_nothing : KeepsSums (replicate PAIRS 0) []
unfolding report_sum
keeps_nothing = record { long = refl; each = λ c r. get_or-replicate PAIRS (pair_place c r) 0 0 (pair_below c r) }

-- one more item in the sum at its place, which is cut, and in no other
each_more : (sums : List ℕ) (items : List Item) (item : Item) → KeepsSums sums items → (c : Category) (r : Reason)
    → get_or (set sums (pair_place item.category item.reason) (min (get_or sums (pair_place item.category item.reason) 0 + item.quantity) (2 ^ 64 - 1))) (pair_place c r) 0
    ≡ report_sum c r (items ++ item ∷ [])
each_more sums items item keeps c r = go (eqb_tells (pair_place c r) (pair_place item.category item.reason))
  where
    at : ℕ
    at = pair_place item.category item.reason

    more : List ℕ
    more = set sums at (min (get_or sums at 0 + item.quantity) (2 ^ 64 - 1))

    go : (((pair_place c r == at) ≡ true) × (pair_place c r ≡ at)) ⊎ (((pair_place c r == at) ≡ false) × (pair_place c r ≢ at))
        → get_or more (pair_place c r) 0 ≡ report_sum c r (items ++ item ∷ [])
    go (inl here) =
        let within : at < length sums = omega (arith, pair_below item.category item.reason, keeps.long) in
        let adds = share_here c (Some r) (item_loss item) (same_place c item.category r item.reason here.1) in
        ap (λ (n : ℕ). get_or more n 0) here.1 ∙ get_or-set_same sums at _ 0 within
        ∙ ap (λ (n : ℕ). min (n + item.quantity) (2 ^ 64 - 1)) (ap (λ (n : ℕ). get_or sums n 0) (sym here.1) ∙ keeps.each c r)
        ∙ sym (sum_more c r items item ∙ ap (λ (n : ℕ). min (report_sum c r items + n) (2 ^ 64 - 1)) adds)
    go (inr elsewhere) =
        let adds = share_elsewhere c (Some r) (item_loss item) (other_place c item.category r item.reason elsewhere.1) in
        get_or-set_other sums at (pair_place c r) _ 0 elsewhere.1 ∙ keeps.each c r
        ∙ sym (sum_more c r items item ∙ ap (λ (n : ℕ). min (report_sum c r items + n) (2 ^ 64 - 1)) adds ∙ capped c r items)

-- the sums with the next item of a list
pub keeps_next : (sums : List ℕ) (items : List Item) (i : ℕ) (d : Item) (at sum : ℕ) → i < length items
    → at ≡ pair_place (get_or items i d).category (get_or items i d).reason → sum ≡ min (get_or sums at 0 + (get_or items i d).quantity) (2 ^ 64 - 1)
    → KeepsSums sums (take i items) → KeepsSums (set sums at sum) (take (i + 1) items)
keeps_next sums items i d at sum within here is keeps = record {
  long = length-set sums at sum ∙ keeps.long;
  each = rw (take_more items i d within, is, here) (each_more sums (take i items) (get_or items i d) keeps);
}

-- ---- the sums of all pairs

-- where indices count up, each is that of an element
element_at : {A : Type 0} (index : A → ℕ) (start : ℕ) (xs : List A) (i : ℕ) → CountsUp index start xs → i < length xs → (x : A) × (index x ≡ start + i)
element_at index start [] i counts h = absurd (omega (arith, h))
element_at index start (x ∷ xs) zero counts h = (x, omega (arith, counts.0))
element_at index start (x ∷ xs) (suc i) counts h =
    let found = element_at index (suc start) xs i counts.1 (omega (arith, h)) in
    (found.0, omega (arith, found.1))

category_at : (i : ℕ) → i < 12 → (c : Category) × (category_index c ≡ i)
category_at i h =
    let found = element_at category_index 0 categories i categories_count_up h in
    (found.0, omega (arith, found.1))

reason_at : (i : ℕ) → i < 9 → (r : Reason) × (reason_index r ≡ i)
reason_at i h =
    let found = element_at reason_index 0 reasons i reasons_count_up h in
    (found.0, omega (arith, found.1))

-- each place in the row is that of a pair
pub pair_at : (i : ℕ) → i < PAIRS → (c : Category) × (r : Reason) × (pair_place c r ≡ i)
pair_at i h =
    let c = category_at (i / 9) (omega arith) in
    let r = reason_at (i % 9) (omega arith) in
    (c.0, r.0, omega (arith, c.1, r.1))

-- in the row of all sums each stands in its place
pub all_at : (items : List Item) (c : Category) (r : Reason) → get_or (all_sums items) (pair_place c r) 0 ≡ report_sum c r items
unfolding all_sums
all_at items category.Error reason.SendError = refl
all_at items _ reason.SendError = refl
all_at items _ _ = refl

all_long : (items : List Item) → length (all_sums items) ≡ PAIRS
unfolding all_sums
all_long items = refl

pub whole_row : (sums : List ℕ) (items : List Item) → KeepsSums sums items → sums ≡ all_sums items
whole_row sums items keeps = ext_get_or 0 sums (all_sums items) (keeps.long ∙ sym (all_long items)) each
  where
    each : (i : ℕ) → i < length sums → get_or sums i 0 ≡ get_or (all_sums items) i 0
    each i within = go (pair_at i (omega (arith, within, keeps.long)))
      where
        go : (c : Category) × (r : Reason) × (pair_place c r ≡ i) → get_or sums i 0 ≡ get_or (all_sums items) i 0
        go (c, r, here) =
            ap (λ (n : ℕ). get_or sums n 0) (sym here) ∙ keeps.each c r ∙ sym (all_at items c r) ∙ ap (λ (n : ℕ). get_or (all_sums items) n 0) here

-- ---- equality

-- two rows of all sums are the same exactly where each sum is
pub same_rows : (xs ys : List Item) → ((c : Category) (r : Reason) → report_sum c r xs ≡ report_sum c r ys) → all_sums xs ≡ all_sums ys
same_rows xs ys same = sym (whole_row (all_sums ys) xs (record { long = all_long ys; each = λ c r. all_at ys c r ∙ sym (same c r) }))

pub same_sums : (xs ys : List Item) → all_sums xs ≡ all_sums ys → (c : Category) (r : Reason) → report_sum c r xs ≡ report_sum c r ys
same_sums xs ys same c r = sym (all_at xs c r) ∙ ap (λ (row : List ℕ). get_or row (pair_place c r) 0) same ∙ all_at ys c r

-- two kept rows tell what the rows of all sums do
pub same_verdict : (xs ys : List ℕ) (items others : List Item) (same : Bool) → KeepsSums xs items → KeepsSums ys others
    → same ≡ pointwise nat_eq xs ys → same ≡ pointwise nat_eq (all_sums items) (all_sums others)
same_verdict xs ys items others same keeps other_keeps is = is ∙ rw (whole_row xs items keeps, whole_row ys others other_keeps) refl
