use Rattle.std.proofs.Common.{ℕ, ◌<◌, map}
use Rattle.sentry_json.specs.Keys.{StandsAt}
use Rattle.sentry_json.proofs.keys.place.Given as goal

abbrev pub invariant-loop-i : goal.invariant-loop-i
invariant-loop-i l = (k : ℕ) → k < l.i → StandsAt l.key k (map (λ n. n.now) l.keys) → ⊥
