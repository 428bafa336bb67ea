use Rattle.std.proofs.Common.{◌≡◌, ◌*◌, ◌^◌, ◌≤◌, min}
use Rattle.sentry_moments.proofs.decimal.with_zeros.Given as goal

-- the value with the zeros so far after it
abbrev pub invariant-loop : goal.invariant-loop
invariant-loop l =
    (l.product ≡ min (l.value * 10 ^ l.counter) 1_000_000_000_000_000_000_000_000_000_000)
    × (l.product ≤ 1_000_000_000_000_000_000_000_000_000_000)
