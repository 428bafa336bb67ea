use Rattle.sentry_limits.proofs.retry_after.retry_after.Goals as goal

pub returns-clause-value : goal.returns-clause-value
returns-clause-value c = (c.delay.result, c.delay.ensures.read, c.unwrap_or.ensures)
