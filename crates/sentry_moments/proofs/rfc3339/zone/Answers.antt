use Rattle.std.proofs.Common.{◌≡◌, arith, FitsSigned, w32, pos, ◌-ℤ◌, to_z, of_z}
use Rattle.std.proofs.lemmas.Int.{to_z-of_z}
use Rattle.jiff_core.proofs.SignedLemmas.{signed_arith}
use Rattle.std.proofs.lemmas.List.{take_rest}
use Rattle.sentry_moments.proofs.Zones.{letter, behind, ahead}
use Rattle.sentry_moments.proofs.rfc3339.zone.Goals as goal

pub returns-in_err-hour_and_minute-in-45-clause-only : goal.returns-in_err-hour_and_minute-in-45-clause-only
returns-in_err-hour_and_minute-in-45-clause-only c offset h =
    let other = ahead c.args.text.now _ offset (grind arith) (take_rest c.args.text.now 1) h in
    let some = c.in_err-hour_and_minute-in-45.ensures.only other.0 other.1 in
    absurd cc

pub returns-in-90-clause-found : goal.returns-in-90-clause-found
returns-in-90-clause-found c = letter c.args.text.now (omega arith) (grind arith)

pub returns-in_ok-hour_and_minute-in-45-clause-found : goal.returns-in_ok-hour_and_minute-in-45-clause-found
returns-in_ok-hour_and_minute-in-45-clause-found c =
    let n = c.in_ok-hour_and_minute-in-45.field-0 in
    let fits : FitsSigned w32 n = omega (arith, signed_arith, c.in_ok-hour_and_minute-in-45.ensures.bound) in
    let negative : FitsSigned w32 (pos 0 -ℤ n) = omega (arith, signed_arith, c.in_ok-hour_and_minute-in-45.ensures.bound) in
    let same : to_z w32 (of_z w32 (pos 0 -ℤ to_z w32 (of_z w32 n))) ≡ pos 0 -ℤ n = simp to_z-of_z in
    rw same (behind c.args.text.now _ n (grind arith) (take_rest c.args.text.now 1) c.in_ok-hour_and_minute-in-45.ensures.found)
