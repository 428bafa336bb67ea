-- What a ledger holds of each pair of a category and a reason, and the items that report it.
use Rattle.std.specs.Prelude.{◌≡◌, ℕ, ◌+◌, ◌-◌, ◌^◌, ◌≤◌, ◌==◌, List, [], ◌∷◌, slice_index, Some, unwrap_or, if◌then◌else◌}
use Rattle.std.specs.List.{flat_map}
use Rattle.sentry_reports.specs.Categories.{categories, reasons}
use Rattle.sentry_reports.specs.ReportSums.{pair_place}
use Rattle.sentry_reports.specs.declared.category.Category.{Category}
use Rattle.sentry_reports.specs.declared.item.Item.{Item}
use Rattle.sentry_reports.specs.declared.item_loss.ItemLoss.{ItemLoss}
use Rattle.sentry_reports.specs.declared.reason.Reason.{Reason}
use Rattle.sentry_ledger.specs.declared.ledger.Ledger.{Ledger}

-- a quantity for each pair
abbrev pub Quantities : Type 0
Quantities = Category → Reason → ℕ

-- what a row holds of a pair
abbrev pub held_in : List ℕ → Quantities
held_in row category reason = slice_index row (pair_place category reason)

-- what a ledger holds of a pair
abbrev pub quantity_held : Ledger → Quantities
quantity_held ledger category reason = held_in ledger.row category reason

-- nothing is held of any pair
abbrev pub HoldsNothing : Quantities → Type 0
HoldsNothing held = (category : Category) (reason : Reason) → held category reason ≡ 0

-- no quantity passes 2^64-1
abbrev pub Fits : Quantities → Type 0
Fits held = (category : Category) (reason : Reason) → held category reason ≤ 2 ^ 64 - 1

-- the reason under which a loss is recorded: its own, or the given one if it has none
abbrev pub reason_for : ItemLoss → Reason → Reason
reason_for loss given = unwrap_or loss.reason given

-- a loss as it is recorded
abbrev pub recorded_loss : ItemLoss → Reason → ItemLoss
recorded_loss loss given = record { category = loss.category; quantity = loss.quantity; reason = Some (reason_for loss given) }

-- the quantity of a loss and what is held of its pair are at most 2^64-1 together
abbrev pub HasRoom : Quantities → ItemLoss → Reason → Type 0
HasRoom held loss given = held loss.category (reason_for loss given) + loss.quantity ≤ 2 ^ 64 - 1

-- ---- reports

-- the item of a pair; none if nothing is held of it
abbrev pub items_of_pair : Quantities → Category → Reason → List Item
items_of_pair held category reason =
    if held category reason == 0 then [] else record { category = category; reason = reason; quantity = held category reason } ∷ []

-- the items of a category, its reasons in order
unfoldable pub items_of_category : Quantities → Category → List Item
items_of_category held category = flat_map (items_of_pair held category) reasons

-- an item for each pair of which something is held, by category and then by reason
unfoldable pub items_held : Quantities → List Item
items_held held = flat_map (items_of_category held) categories
