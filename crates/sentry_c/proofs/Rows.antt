-- The numbers of categories and reasons.
use Rattle.std.proofs.Common.{arith, ◌≡◌, ℕ, zero, suc, ◌+◌, List, [], ◌∷◌, slice_get, Some}
use Rattle.sentry_reports.specs.Categories.{categories, category_in_place, category_index, reasons, reason_in_place, reason_index}
use Rattle.sentry_reports.specs.declared.category.Category.{Category}
use Rattle.sentry_reports.specs.declared.reason.Reason.{Reason}
use Rattle.sentry_reports.proofs.Words.{CountsUp, categories_count_up, reasons_count_up}

number_at : {A : Type 0} (index : A → ℕ) (i k : ℕ) (xs : List A) (x : A) → CountsUp index i xs → slice_get xs k ≡ Some x → i + k ≡ index x
number_at index i k [] x ordered found = cc
number_at index i zero (y ∷ ys) x ordered found = let same : y ≡ x = cc in rw (← same) (omega (arith, ordered.0))
number_at index i (suc k) (y ∷ ys) x ordered found = omega (arith, number_at index (suc i) k ys x ordered.1 found)

pub category_number : (k : ℕ) (c : Category) → slice_get categories k ≡ Some c → k ≡ category_index c
category_number k c found = omega (arith, number_at category_index 0 k categories c categories_count_up found)

pub reason_number : (k : ℕ) (r : Reason) → slice_get reasons k ≡ Some r → k ≡ reason_index r
reason_number k r found = omega (arith, number_at reason_index 0 k reasons r reasons_count_up found)

-- back from a category or a reason to what stands at its number
pub number_of_category : (k : ℕ) (c : Category) → k ≡ category_index c → slice_get categories k ≡ Some c
number_of_category k c at = rw at (category_in_place c)

pub number_of_reason : (k : ℕ) (r : Reason) → k ≡ reason_index r → slice_get reasons k ≡ Some r
number_of_reason k r at = rw at (reason_in_place r)
