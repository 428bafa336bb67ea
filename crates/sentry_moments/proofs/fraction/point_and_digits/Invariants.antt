use Rattle.std.proofs.Common.{◌≡◌, ◌+◌, ◌-◌, ◌≤◌, ◌++◌, [], ◌∷◌, length, take, drop}
use Rattle.sentry_moments.specs.Digits.{digits}
use Rattle.sentry_moments.proofs.fraction.point_and_digits.Given as goal

-- the point is first, and what is left to write comes before what is written
abbrev pub invariant-loop-left : goal.invariant-loop-left
invariant-loop-left l =
    (l.left ≤ l.places) × (length l.text ≡ 10) × (take 1 l.text ≡ 46 ∷ [])
    × (digits l.left l.rest ++ take (l.places - l.left) (drop (l.left + 1) l.text) ≡ digits l.places l.number)

abbrev pub decreases-loop-left : goal.decreases-loop-left
decreases-loop-left l = l.left
