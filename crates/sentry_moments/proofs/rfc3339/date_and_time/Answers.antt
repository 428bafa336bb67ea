use Rattle.std.proofs.Common.{arith, FitsSigned, w32}
use Rattle.std.proofs.lemmas.Int.{to_z-of_z}
use Rattle.jiff_core.proofs.SignedLemmas.{signed_arith}
use Rattle.sentry_moments.proofs.DateAndTimes.{parts, dated, has_date_form}
use Rattle.sentry_moments.proofs.rfc3339.date_and_time.Goals as goal

pub returns-then-not-has_form-clause-only : goal.returns-then-not-has_form-clause-only
returns-then-not-has_form-clause-only c day second r =
    let yes = c.has_form.ensures.1 (parts c.args.text.now day second r).1 in cc

pub returns-in_err-day-clause-only : goal.returns-in_err-day-clause-only
returns-in_err-day-clause-only c day second r =
    let only = rw (c.number_at.ensures.value, c.number_at-2.ensures.value, c.number_at-3.ensures.value, c.number_at-4.ensures.value) at c.in_err-day.ensures.only in
    let some = only (parts c.args.text.now day second r).0.1.1.date in
    absurd cc

pub returns-then-hour-ge24-clause-only : goal.returns-then-hour-ge24-clause-only
returns-then-hour-ge24-clause-only c day second r =
    absurd (omega (arith, (parts c.args.text.now day second r).0.1.1.hour, c.number_at-hour.ensures.value, c.if-hour-ge24.true))

pub returns-clause-found : goal.returns-clause-found
returns-clause-found c =
    let t = c.args.text.now in
    let fits : FitsSigned w32 c.in_ok-day.day = omega (arith, signed_arith, c.in_ok-day.ensures.bound) in
    let day = rw (c.number_at.ensures.value, c.number_at-2.ensures.value, c.number_at-3.ensures.value, c.number_at-4.ensures.value) at c.in_ok-day.ensures.found in
    rw (to_z-of_z, day.1, c.number_at-hour.ensures.value, c.number_at-5.ensures.value, c.number_at-6.ensures.value)
    (dated t (has_date_form t c.requires (c.has_form.ensures.0 cc) (omega (arith, c.number_at-hour.ensures.value, c.if-hour-ge24.false)) day.0))
