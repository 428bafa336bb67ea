use Rattle.sentry_limits.proofs.retry_after.delay.Goals as goal

pub returns-in_err-seconds-clause-read : goal.returns-in_err-seconds-clause-read
returns-in_err-seconds-clause-read c = rw c.from_residual.ensures (λ secs nanos h. c.in_err-seconds.ensures.only secs nanos h.0 h.1)

pub returns-clause-read : goal.returns-clause-read
returns-clause-read c =
    let m = c.in_ok-seconds.seconds in
    (m.secs, m.nanos, ((m.secs_in_range, m.nanos_in_range), c.in_ok-seconds.ensures.found), c.rounded_up.ensures.value)
