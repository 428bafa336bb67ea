use Rattle.std.proofs.Common.{◌==◌, List, ℕ, ◌≡◌}
use Rattle.std.specs.List.{slice_split}
use Rattle.std.specs.Str.Iter.{split_steps}
use Rattle.std.specs.Str.Pattern.{FindsChar}
use Rattle.std.proofs.lemmas.Iterator.{YieldsList}
use Rattle.sentry_limits.specs.RateLimits.{AreHeld, comma}
use Rattle.sentry_limits.specs.declared.rate_limits.RateLimits.{RateLimits}
use Rattle.sentry_limits.proofs.rate_limits.RateLimits.update.Given as goal

-- whatever the limits that are left make, all of them make
abbrev pub invariant-loop-limit : goal.invariant-loop-limit
invariant-loop-limit l =
    (texts : List (List ℕ)) × YieldsList (split_steps FindsChar (λ a b. b ≡ a)) (λ x. x.now) l.limit-iterator texts
    × ((new : RateLimits) → AreHeld texts l.now l.self new → AreHeld (slice_split (λ b. b == comma) l.header) l.now l.fn.self new)
