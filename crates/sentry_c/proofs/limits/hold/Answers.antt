use Rattle.sentry_c.proofs.limits.hold.Goals as goal

pub returns-then-retry_after : goal.returns-then-retry_after
returns-then-retry_after c = rw c.if-retry_after.true c.update_retry_after.ensures
