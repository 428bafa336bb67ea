use Rattle.std.proofs.Common.{List, ℕ, subst}
use Rattle.sentry_limits.specs.RetryAfter.{RetriesAt}
use Rattle.sentry_limits.proofs.rate_limits.RateLimits.update_retry_after.Goals as goal

pub returns : goal.returns
returns c = record {
  end = c.retry_at-end.result;
  stated = subst (λ (t : List ℕ). RetriesAt c.args.now t c.retry_at-end.result) c.trim.ensures.trim c.retry_at-end.ensures;
  ends = c.raise.ensures;
}
