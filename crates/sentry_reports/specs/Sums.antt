-- What a list of losses sums to, for each category and reason, and for no reason.
use Rattle.std.specs.Prelude.{ℕ, ◌+◌, ◌-◌, ◌*◌, ◌^◌, min, ◌==◌, ◌&&◌, Bool, List, sum_by, if◌then◌else◌, Option, Some, None}
use Rattle.sentry_reports.specs.Categories.{category_index, reason_index}
use Rattle.sentry_reports.specs.declared.category.Category.{Category}
use Rattle.sentry_reports.specs.declared.item_loss.ItemLoss.{ItemLoss}
use Rattle.sentry_reports.specs.declared.reason.Reason.{Reason}

-- the places within a category: no reason stands first, and then the reasons in order
abbrev pub reason_place : Option Reason → ℕ
reason_place None = 0
reason_place (Some reason) = reason_index reason + 1

-- where a sum stands in a row of all of them, category by category
abbrev pub place : Category → Option Reason → ℕ
place category reason = 10 * category_index category + reason_place reason

abbrev pub is_loss_of : Category → Option Reason → ItemLoss → Bool
is_loss_of category reason loss = (category_index loss.category == category_index category) && (reason_place loss.reason == reason_place reason)

-- all that is lost of a category for a reason, or for none: the sum, without bound
abbrev pub lost : Category → Option Reason → List ItemLoss → ℕ
lost category reason losses = sum_by (λ loss. if is_loss_of category reason loss then loss.quantity else 0) losses

-- the sum that is shown: cut once at what 64 bits hold
abbrev pub shown : Category → Option Reason → List ItemLoss → ℕ
shown category reason losses = min (lost category reason losses) (2 ^ 64 - 1)
