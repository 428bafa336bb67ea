-- The table of what is lost.
use Rattle.std.specs.Prelude.{ℕ, ◌==◌, List, [], ◌∷◌, ◌++◌, codes, if◌then◌else◌, Option, Some, None}
use Rattle.std.specs.List.{flat_map}
use Rattle.std.specs.Fmt.{decimal}
use Rattle.sentry_reports.specs.Categories.{categories, category_word, reasons, reason_word}
use Rattle.sentry_reports.specs.Sums.{shown}
use Rattle.sentry_reports.specs.declared.category.Category.{Category}
use Rattle.sentry_reports.specs.declared.item_loss.ItemLoss.{ItemLoss}
use Rattle.sentry_reports.specs.declared.reason.Reason.{Reason}

abbrev pub reason_text : Option Reason → List ℕ
reason_text None = codes "none"
reason_text (Some reason) = reason_word reason

-- a line of the table: the category, the reason or `none`, and the sum; none where the sum is 0
abbrev pub line_of : Category → Option Reason → ℕ → List ℕ
line_of category reason quantity =
    if quantity == 0 then [] else category_word category ++ 32 ∷ (reason_text reason ++ 32 ∷ (decimal quantity ++ 10 ∷ []))

-- the lines of a category, with the sums that a function gives: for no reason first, and then for
-- each reason
unfoldable pub lines_by : (Category → Option Reason → ℕ) → Category → List ℕ
lines_by sum category = line_of category None (sum category None) ++ flat_map (λ reason. line_of category (Some reason) (sum category (Some reason))) reasons

-- the lines of all categories
unfoldable pub table_by : (Category → Option Reason → ℕ) → List ℕ
table_by sum = flat_map (lines_by sum) categories

-- the table of these losses
unfoldable pub table_of : List ItemLoss → List ℕ
table_of losses = table_by (λ category reason. shown category reason losses)
