-- Rate limits in one row of ends, and a measure in two rows.
use Rattle.std.proofs.Common.{◌≡◌, ℕ, Bool, true, false, List, sym, ap, ◌∙◌, subst}
use Rattle.sentry_moments.specs.declared.moment.Moment.{Moment}
use Rattle.sentry_limits.specs.Measured.{IsMeasured}
use Rattle.sentry_limits.specs.RateLimits.{IsHeldBack, IsUpdated}
use Rattle.sentry_limits.specs.declared.rate_limits.RateLimits.{RateLimits}
use Rattle.sentry_limits.specs.declared.sizes.Measured.{Measured}
use Rattle.sentry_c.specs.Limits.{HoldsBackRow, HoldsRow, IsHeldOf, MeasuresRows, UpdatesRow, limits_of}

pub row_of : (limits : RateLimits) (ends row : List ℕ) → limits.ends ≡ ends → ends ≡ row → limits ≡ limits_of row
row_of limits ends row a b = ap limits_of (a ∙ b)

module _ (bytes text old new : List ℕ) (secs nanos : ℕ) (now : Moment) (held after : RateLimits) (s : now.secs ≡ secs) (n : now.nanos ≡ nanos) (same : text ≡ bytes) (first : held ≡ limits_of old) (last : new ≡ after.ends) where
  pub updates : IsUpdated text now held after → UpdatesRow bytes secs nanos old new
  updates h = (now, s, n, subst (λ (t : List ℕ). IsUpdated t now (limits_of old) (limits_of new)) same (subst (λ (x : RateLimits). IsUpdated text now x (limits_of new)) first (subst (λ (x : RateLimits). IsUpdated text now held x) (sym (ap limits_of last)) h)))

  pub holds_back : IsHeldBack text now held after → HoldsBackRow bytes secs nanos old new
  holds_back h = (now, s, n, subst (λ (t : List ℕ). IsHeldBack t now (limits_of old) (limits_of new)) same (subst (λ (x : RateLimits). IsHeldBack text now x (limits_of new)) first (subst (λ (x : RateLimits). IsHeldBack text now held x) (sym (ap limits_of last)) h)))

  pub holds : (retry_after : Bool) → IsHeldOf retry_after text now held after → HoldsRow retry_after bytes secs nanos old new
  holds false = updates
  holds true = holds_back

pub measures : (bytes items sizes : List ℕ) (longest : ℕ) (m : Measured) → items ≡ m.items → sizes ≡ m.bytes → longest ≡ m.longest → IsMeasured bytes m → MeasuresRows bytes items sizes longest
measures bytes items sizes longest m a b c h = subst (λ (k : ℕ). MeasuresRows bytes items sizes k) (sym c) (subst (λ (ys : List ℕ). MeasuresRows bytes items ys m.longest) (sym b) (subst (λ (xs : List ℕ). MeasuresRows bytes xs m.bytes m.longest) (sym a) h))
