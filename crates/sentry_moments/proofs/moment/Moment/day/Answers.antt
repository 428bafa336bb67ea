use Rattle.std.proofs.Common.{◌≡◌, ◌/◌, arith, FitsSigned, w16, pos, to_z, of_z, refl}
use Rattle.std.proofs.lemmas.Int.{to_z-of_z}
use Rattle.jiff_core.specs.Date.{epoch_day}
use Rattle.jiff_core.proofs.SignedLemmas.{signed_arith}
use Rattle.sentry_moments.specs.MomentTexts.{day_after}
use Rattle.sentry_moments.proofs.Calendar.{same_date, day_after-is, year_below}
use Rattle.sentry_moments.proofs.moment.Moment.day.Goals as goal

pub overflow_cast-result : goal.overflow_cast-result
overflow_cast-result c =
    let date = c.from_days_since_min-date.result in
    let n = c.args.self.now.secs / 86_400 in
    let e : epoch_day date ≡ pos n = omega (arith, signed_arith, c.from_days_since_min-date.ensures) in
    let s = same_date date n (omega arith) e in
    let below = year_below (day_after n) n (day_after-is n) (omega arith) in
    let fits : FitsSigned w16 (pos (day_after n).year) = omega (arith, signed_arith) in
    let same : to_z w16 (of_z w16 (pos (day_after n).year)) ≡ pos (day_after n).year = simp to_z-of_z in
    rw (s.0, same) (tt, omega arith)

pub returns-clause-year : goal.returns-clause-year
returns-clause-year c =
    let date = c.from_days_since_min-date.result in
    let n = c.args.self.now.secs / 86_400 in
    let e : epoch_day date ≡ pos n = omega (arith, signed_arith, c.from_days_since_min-date.ensures) in
    let s = same_date date n (omega arith) e in
    let below = year_below (day_after n) n (day_after-is n) (omega arith) in
    let fits : FitsSigned w16 (pos (day_after n).year) = omega (arith, signed_arith) in
    let same : to_z w16 (of_z w16 (pos (day_after n).year)) ≡ pos (day_after n).year = simp to_z-of_z in
    rw (s.0, same) refl

pub returns-clause-month : goal.returns-clause-month
returns-clause-month c =
    let n = c.args.self.now.secs / 86_400 in
    let e : epoch_day c.from_days_since_min-date.result ≡ pos n = omega (arith, signed_arith, c.from_days_since_min-date.ensures) in
    (same_date c.from_days_since_min-date.result n (omega arith) e).1

pub returns-clause-day : goal.returns-clause-day
returns-clause-day c =
    let n = c.args.self.now.secs / 86_400 in
    let e : epoch_day c.from_days_since_min-date.result ≡ pos n = omega (arith, signed_arith, c.from_days_since_min-date.ensures) in
    (same_date c.from_days_since_min-date.result n (omega arith) e).2
