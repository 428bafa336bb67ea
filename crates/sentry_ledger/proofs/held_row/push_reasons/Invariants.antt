use Rattle.std.proofs.Common.{◌≡◌, ◌++◌, take}
use Rattle.std.specs.List.{flat_map}
use Rattle.sentry_ledger.specs.Held.{held_in, items_of_pair}
use Rattle.sentry_ledger.proofs.held_row.push_reasons.Given as goal

abbrev pub invariant-loop-reason : goal.invariant-loop-reason
invariant-loop-reason l = l.items.items ≡ l.initial.items.items ++ flat_map (items_of_pair (held_in l.row) l.category) (take l.reason-index l.reasons)
