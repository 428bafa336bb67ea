use Rattle.std.proofs.Common.{◌≡◌, ◌++◌, take}
use Rattle.std.specs.List.{flat_map}
use Rattle.sentry_ledger.specs.Held.{held_in, items_of_category}
use Rattle.sentry_ledger.proofs.held_row.push_categories.Given as goal

abbrev pub invariant-loop-category : goal.invariant-loop-category
invariant-loop-category l = l.items.items ≡ l.initial.items.items ++ flat_map (items_of_category (held_in l.row)) (take l.category-index l.categories)
