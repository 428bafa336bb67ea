use Rattle.std.proofs.Common.{List, ℕ, Some, None, inl, inr, subst, sym}
use Rattle.httpdate.specs.Date.{IsDateText}
use Rattle.sentry_limits.proofs.retry_after.retry_at.Goals as goal

pub returns-in-Some : goal.returns-in-Some
returns-in-Some c = (Some c.in-Some.seconds, c.in-Some.ensures.read, c.end_after.ensures)

pub returns-in-Ok : goal.returns-in-Ok
returns-in-Ok c =
    let shown = subst (λ (t : List ℕ). IsDateText t c.in-Ok.date) c.as_bytes.ensures.value c.in-Ok.ensures.shown in
    (None, c.in_default.ensures.read, inl (c.in-Ok.date, shown, c.unix_secs.ensures.value))

pub returns-in-Err : goal.returns-in-Err
returns-in-Err c =
    (None, c.in_default.ensures.read, inr (λ date shown. c.in-Err.ensures.shown date (subst (λ (t : List ℕ). IsDateText t date) (sym c.as_bytes.ensures.value) shown), c.end_after-in-Err.ensures))
