use Rattle.std.proofs.Common.{eqb, ltb, arith, ◌||◌}
use Rattle.std.proofs.lemmas.Simd.{zip2_splat, zip2_splat_left}
use Rattle.sentry_json.proofs.StopMasks.{below, hit}
use Rattle.sentry_forward.proofs.Runs.{either, mask_of}
use Rattle.sentry_forward.specs.Runs.{ends_run}
use Rattle.sentry_forward.proofs.run.stops.Goals as goal

pub returns : goal.returns
returns c =
    let v = c.args.lanes in
    let long = c.fits-lanes.0 in
    let two = either (λ x. eqb x 34) (λ x. eqb x 92) v (zip2_splat hit v 16 34 long) (zip2_splat hit v 16 92 long) in
    let three = either (λ x. eqb x 34 || eqb x 92) (λ x. ltb x 32) v two (zip2_splat below v 16 32 long) in
    mask_of ends_run v _ (omega arith) (either (λ x. (eqb x 34 || eqb x 92) || ltb x 32) (λ x. ltb 127 x) v three (zip2_splat_left below 127 16 v long))
