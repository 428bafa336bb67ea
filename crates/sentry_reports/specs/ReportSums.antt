-- What the items of a report sum to, for each category and reason.
use Rattle.std.specs.Prelude.{◌≡◌, ℕ, ◌+◌, ◌*◌, List, length, Some, map, slice_index}
use Rattle.std.specs.List.{flat_map}
use Rattle.sentry_reports.specs.Categories.{categories, category_index, reasons, reason_index}
use Rattle.sentry_reports.specs.Items.{losses_reported}
use Rattle.sentry_reports.specs.Sums.{shown}
use Rattle.sentry_reports.specs.declared.category.Category.{Category}
use Rattle.sentry_reports.specs.declared.item.Item.{Item}
use Rattle.sentry_reports.specs.declared.kept_sums.TheConstants.{PAIRS}
use Rattle.sentry_reports.specs.declared.reason.Reason.{Reason}

-- the sum of the quantities of the items of a category and a reason, without bound, cut once at
-- what 64 bits hold
unfoldable pub report_sum : Category → Reason → List Item → ℕ
report_sum category reason items = shown category (Some reason) (losses_reported items)

-- where the sum of a category and a reason stands in a row of all of them, category by category
abbrev pub pair_place : Category → Reason → ℕ
pair_place category reason = 9 * category_index category + reason_index reason

-- the row has the sum of each category and reason in its place, and nothing else
pub record KeepsSums (sums : List ℕ) (items : List Item) : Type 0 where
  pub long : length sums ≡ PAIRS
  pub each : (category : Category) (reason : Reason) → slice_index sums (pair_place category reason) ≡ report_sum category reason items

-- the sums of all categories and reasons, category by category
unfoldable pub all_sums : List Item → List ℕ
all_sums items = flat_map (λ category. map (λ reason. report_sum category reason items) reasons) categories
