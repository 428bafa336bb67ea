use Rattle.std.proofs.Common.{arith, FitsSigned, w32, w64, pos, ◌*ℤ◌, ◌+ℤ◌, ◌-ℤ◌}
use Rattle.std.proofs.lemmas.Int.{to_z-of_z}
use Rattle.jiff_core.proofs.SignedLemmas.{signed_arith}
use Rattle.sentry_moments.proofs.rfc3339.seconds.Goals as goal

pub returns-clause-value : goal.returns-clause-value
returns-clause-value c =
    let d : FitsSigned w32 c.args.day = c.ranges.day in
    let o : FitsSigned w32 c.args.offset = c.ranges.offset in
    let d8 : FitsSigned w64 c.args.day = omega (arith, signed_arith) in
    let o8 : FitsSigned w64 c.args.offset = omega (arith, signed_arith) in
    let s8 : FitsSigned w64 (pos c.args.second) = omega (arith, signed_arith) in
    let m8 : FitsSigned w64 (c.args.day *ℤ pos 86_400) = omega (arith, signed_arith) in
    let a8 : FitsSigned w64 (c.args.day *ℤ pos 86_400 +ℤ pos c.args.second) = omega (arith, signed_arith) in
    let t8 : FitsSigned w64 (c.args.day *ℤ pos 86_400 +ℤ pos c.args.second -ℤ c.args.offset) = omega (arith, signed_arith) in
    rw (c.from.ensures, c.from-2.ensures, c.from-3.ensures) (simp to_z-of_z)

pub returns-clause-bound : goal.returns-clause-bound
returns-clause-bound c = rw (returns-clause-value c) (omega (arith, signed_arith), omega (arith, signed_arith))
