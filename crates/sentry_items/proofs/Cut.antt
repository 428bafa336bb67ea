-- Sums that are cut once are those that are cut at each step.
use Rattle.std.proofs.Common.{arith, ◌≡◌, ℕ, ◌+◌, ◌-◌, ◌^◌, ◌<◌, min, List, sum_by, take, length, get_or}
use Rattle.std.proofs.lemmas.List.Sums.{sum_by_more}
use Rattle.sentry_items.specs.Sizes.{cut}

-- one more term
pub cut_add : (sum more : ℕ) → min (cut sum + cut more) (2 ^ 64 - 1) ≡ cut (sum + more)
cut_add sum more = omega arith

-- one more element of a list
pub cut_more : {X : Type 0} (f : X → ℕ) (xs : List X) (i : ℕ) (d : X) → i < length xs → min (cut (sum_by f (take i xs)) + cut (f (get_or xs i d))) (2 ^ 64 - 1) ≡ cut (sum_by f (take (i + 1) xs))
cut_more f xs i d below = rw (sum_by_more f xs i d below) (cut_add (sum_by f (take i xs)) (f (get_or xs i d)))
