use Rattle.std.proofs.Common.{◌≡◌, take, sum_by}
use Rattle.sentry_items.specs.Sizes.{cut}
use Rattle.sentry_items.proofs.sizes.sum_of_sizes.Given as goal

-- the sizes of the items that were seen
abbrev pub invariant-loop-item : goal.invariant-loop-item
invariant-loop-item g l = l.sum ≡ cut (sum_by g.T.Measured.size_of (take l.item-index l.items))
