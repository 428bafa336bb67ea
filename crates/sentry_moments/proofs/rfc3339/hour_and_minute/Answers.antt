use Rattle.std.proofs.Common.{arith, w32, ◌+◌, ◌*◌}
use Rattle.std.proofs.lemmas.Int.{to_z_pos}
use Rattle.sentry_moments.proofs.Zones.{offset_form, offset_is}
use Rattle.sentry_moments.proofs.rfc3339.hour_and_minute.Goals as goal

pub returns-then-not-is_hour_and_minute-clause-only : goal.returns-then-not-is_hour_and_minute-clause-only
returns-then-not-is_hour_and_minute-clause-only c offset h =
    let yes = c.is_hour_and_minute.ensures.1 (offset_form c.args.text.now offset h).0 in cc

pub returns-then-hour-ge24-clause-only : goal.returns-then-hour-ge24-clause-only
returns-then-hour-ge24-clause-only c offset h =
    absurd (omega (arith, (offset_form c.args.text.now offset h).1, c.number_at-hour.ensures.value, c.if-hour-ge24.true))

pub returns-clause-found : goal.returns-clause-found
returns-clause-found c =
    let found = offset_is c.args.text.now (c.is_hour_and_minute.ensures.0 cc) (omega (arith, c.number_at-hour.ensures.value, c.if-hour-ge24.false)) in
    rw (to_z_pos w32 (c.number_at-hour.result * 3_600 + c.number_at.result * 60) (omega arith), c.number_at-hour.ensures.value, c.number_at.ensures.value) found
