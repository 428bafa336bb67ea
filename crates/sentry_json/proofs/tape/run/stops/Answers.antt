use Rattle.std.proofs.Common.{eqb, ltb, arith}
use Rattle.std.proofs.lemmas.Simd.{zip2_splat}
use Rattle.sentry_json.proofs.StopMasks.{hit, below, either, mask_of}
use Rattle.sentry_json.proofs.tape.run.stops.Goals as goal

pub returns : goal.returns
returns c =
    let v = c.args.lanes in
    let long = c.fits-lanes.0 in
    mask_of (λ x. eqb x 34) (λ x. eqb x 92) (λ x. ltb x 32) v _ (omega arith) (either _ _ v (either _ _ v (zip2_splat hit v 16 34 long) (zip2_splat hit v 16 92 long)) (zip2_splat below v 16 32 long))
