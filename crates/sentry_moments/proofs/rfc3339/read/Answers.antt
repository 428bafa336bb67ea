use Rattle.std.proofs.Common.{arith, List, ℕ, refl, sym, subst, FitsSigned, w32, w64}
use Rattle.std.proofs.lemmas.Int.{to_z-of_z}
use Rattle.std.proofs.lemmas.Option.{some_pair_parts}
use Rattle.jiff_core.proofs.SignedLemmas.{signed_arith}
use Rattle.sentry_moments.specs.Rfc3339.{IsZone}
use Rattle.sentry_moments.proofs.Rfc3339Texts.{named, placed, same_moment}
use Rattle.sentry_moments.proofs.rfc3339.read.Goals as goal

pub returns-in_err-front-clause-only : goal.returns-in_err-front-clause-only
returns-in_err-front-clause-only c secs nanos r =
    absurd (omega (arith, c.in_err-front.ensures.cases, (placed c.args.text.now secs nanos r).0))

pub returns-in_err-day-clause-only : goal.returns-in_err-day-clause-only
returns-in_err-day-clause-only c secs nanos r =
    let date = rw (← c.in_ok-front.ensures.cases.1) at (placed c.args.text.now secs nanos r).1 in
    let some = c.in_err-day.ensures.only r.day r.second date in
    absurd cc

pub returns-in_err-nanos-clause-only : goal.returns-in_err-nanos-clause-only
returns-in_err-nanos-clause-only c secs nanos r =
    let is = rw (← c.in_ok-front.ensures.cases.2, ← c.in_err-nanos.ensures.value) at (placed c.args.text.now secs nanos r).2 in
    absurd cc

pub returns-in_err-offset-clause-only : goal.returns-in_err-offset-clause-only
returns-in_err-offset-clause-only c secs nanos r =
    let is = rw (← c.in_ok-front.ensures.cases.2, ← c.in_ok-nanos.ensures.value) at (placed c.args.text.now secs nanos r).2 in
    let rest = (some_pair_parts _ _ _ _ is).1 in
    let some = c.in_err-offset.ensures.only r.offset (subst (λ (l : List ℕ). IsZone l r.offset) (sym rest) r.is_zone) in
    absurd cc

pub returns-clause-found : goal.returns-clause-found
returns-clause-found c =
    let day : FitsSigned w32 c.in_ok-day.day = omega (arith, signed_arith, c.in_ok-day.ensures.bound) in
    let offset : FitsSigned w32 c.in_ok-offset.offset = omega (arith, signed_arith, c.in_ok-offset.ensures.bound) in
    let seconds : FitsSigned w64 c.seconds.result = omega (arith, signed_arith, c.seconds.ensures.bound) in
    let value = simp to_z-of_z at c.seconds.ensures.value in
    let date = rw c.in_ok-front.ensures.cases.1 at c.in_ok-day.ensures.found in
    let part = rw c.in_ok-front.ensures.cases.2 at c.in_ok-nanos.ensures.value in
    rw (to_z-of_z, value) (named c.args.text.now c.in_ok-nanos.rest.now c.in_ok-day.day c.in_ok-day.second c.in_ok-nanos.nanos c.in_ok-offset.offset date (sym part) c.in_ok-offset.ensures.found)

pub returns-clause-only : goal.returns-clause-only
returns-clause-only c secs nanos r =
    let same = same_moment c.args.text.now _ secs _ nanos (returns-clause-found c) r in
    rw (same.0, same.1) refl
