use Rattle.std.proofs.Common.{◌≡◌, ◌∙◌, sym, arith, FitsSigned, w64, to_z, of_z, pos}
use Rattle.std.proofs.lemmas.Int.{to_z-of_z}
use Rattle.std.proofs.lemmas.Option.{IfSome_then}
use Rattle.jiff_core.proofs.SignedLemmas.{signed_arith}
use Rattle.sentry_moments.proofs.Rfc3339Texts.{as_rfc3339, as_moment, same_moment}
use Rattle.sentry_moments.proofs.moment.Moment.from_rfc3339.Goals as goal

pub returns-in_err-secs-clause-only : goal.returns-in_err-secs-clause-only
returns-in_err-secs-clause-only c secs nanos h =
    let only = rw c.as_bytes.ensures.value at c.in_err-secs.ensures.only in
    let some = only (pos secs) nanos (as_moment c.args.text.now secs nanos h) in
    absurd cc

pub returns-clause-found : goal.returns-clause-found
returns-clause-found c =
    let found = rw c.as_bytes.ensures.value at c.in_ok-secs.ensures.found in
    let fits : FitsSigned w64 c.in_ok-secs.secs = omega (arith, signed_arith, c.in_ok-secs.ensures.bound.0) in
    let same : to_z w64 (of_z w64 c.in_ok-secs.secs) ≡ c.in_ok-secs.secs = simp to_z-of_z in
    IfSome_then c.from_signed.result c.from_signed.ensures.found (λ m e.
    let secs = e.0 ∙ same in
    let nanos = e.1 in
    as_rfc3339 c.args.text.now m.secs m.nanos (rw (secs, nanos) found) m.secs_in_range)

pub returns-clause-only : goal.returns-clause-only
returns-clause-only c secs nanos h =
    let found = rw c.as_bytes.ensures.value at c.in_ok-secs.ensures.found in
    let fits : FitsSigned w64 c.in_ok-secs.secs = omega (arith, signed_arith, c.in_ok-secs.ensures.bound.0) in
    let same : to_z w64 (of_z w64 c.in_ok-secs.secs) ≡ c.in_ok-secs.secs = simp to_z-of_z in
    let e = same_moment c.args.text.now (pos secs) c.in_ok-secs.secs nanos c.in_ok-secs.nanos (as_moment c.args.text.now secs nanos h) found in
    rw e.1 (c.from_signed.ensures.only secs (e.0 ∙ sym same) h.in_range.0)
