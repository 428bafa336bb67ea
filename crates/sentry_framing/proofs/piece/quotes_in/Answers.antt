use Rattle.std.proofs.Common.{ℕ, Bool, eqb, map, take, ap, ap₂, ◌%◌, ◌∙◌, arith, w8}
use Rattle.std.proofs.lemmas.Nat.{one_shl}
use Rattle.std.proofs.lemmas.Simd.{bitmask_splat, ones-mask_l}
use Rattle.std.proofs.lemmas.List.{take-map}
use lib.Count.{ones}
use lib.Lanes.{mask_l}
use Rattle.sentry_framing.specs.Quotes.{quotes}
use Rattle.sentry_framing.proofs.Stops.{first_bits}
use Rattle.sentry_framing.proofs.piece.quotes_in.Goals as goal

pub returns : goal.returns
unfolding quotes
returns c =
    let lanes = c.args.lanes in
    let n = c.args.len in
    let is_quote : ℕ → Bool = λ b. eqb b 34 in
    ap ones (ap₂ (λ a b. a % b) (bitmask_splat w8 eqb lanes 16 34 c.fits-lanes.0 (omega arith)) (one_shl n 64 (omega (arith, c.requires))) ∙ first_bits (map is_quote lanes) n ∙ ap mask_l (take-map is_quote n lanes)) ∙ ones-mask_l is_quote (take n lanes)
