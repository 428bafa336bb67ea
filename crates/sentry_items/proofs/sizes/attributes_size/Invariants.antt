use Rattle.std.proofs.Common.{◌≡◌, ◌≤◌, ◌+◌, ◌-◌, ◌^◌}
use Rattle.sentry_items.specs.Sizes.{attributes_size, cut}
use Rattle.sentry_items.proofs.sizes.attributes_size.Given as goal

-- the sum is within its bound, and with what is left, all is summed
abbrev pub invariant-loop-key : goal.invariant-loop-key
invariant-loop-key l = (l.sum ≤ 2 ^ 64 - 1) × (cut (l.sum + attributes_size l.key-iterator) ≡ cut (attributes_size l.attributes.entries))
