use Rattle.std.proofs.Common.{◌≡◌, ◌++◌, take, string_bytes}
use Rattle.std.specs.List.{flat_map}
use Rattle.sentry_ledger.specs.LossSums.{sum_at}
use Rattle.sentry_program.specs.Table.{lines_by}
use Rattle.sentry_program.proofs.losses.push_categories.Given as goal

abbrev pub invariant-loop-category : goal.invariant-loop-category
invariant-loop-category l = string_bytes l.text ≡ string_bytes l.initial.text ++ flat_map (lines_by (sum_at l.sums)) (take l.category-index l.categories)
