use Rattle.std.proofs.Common.{◌≡◌, ◌^◌, ◌<◌, ◌≤◌}
use Rattle.sentry_moments.specs.Digits.{digits_without_closing_zeros}
use Rattle.sentry_moments.proofs.fraction.without_closing_zeros.Given as goal

-- what is left has the same places up to the last that is not 0
abbrev pub invariant-loop-number : goal.invariant-loop-number
invariant-loop-number l =
    (digits_without_closing_zeros l.places l.number ≡ digits_without_closing_zeros 9 l.billionths) × (0 < l.number)
    × (l.number < 10 ^ l.places) × (l.places ≤ 9)

abbrev pub decreases-loop-number : goal.decreases-loop-number
decreases-loop-number l = l.number
