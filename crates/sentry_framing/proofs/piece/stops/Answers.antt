use Rattle.std.proofs.Common.{eqb, arith}
use Rattle.std.proofs.lemmas.Simd.{zip2_splat}
use Rattle.sentry_json.proofs.StopMasks.{hit, either, mask_of}
use Rattle.sentry_framing.proofs.piece.stops.Goals as goal

pub returns : goal.returns
returns c =
    let v = c.args.lanes in
    let long = c.fits-lanes.0 in
    mask_of (λ x. eqb x 123) (λ x. eqb x 125) (λ x. eqb x 92) v _ (omega arith) (either _ _ v (either _ _ v (zip2_splat hit v 16 123 long) (zip2_splat hit v 16 125 long)) (zip2_splat hit v 16 92 long))
