use Rattle.std.proofs.Common.{rules, ◌<◌, slice_index, length-set, ◌∙◌, arith}
use Rattle.sentry_identifiers.proofs.HexIds.{digits_utf8}
use Rattle.sentry_identifiers.proofs.HexTexts.{high_at, low_at, pair_written, all_written}
use Rattle.sentry_identifiers.proofs.hex_id.write_bytes.Goals as goal

pub loop-place-preserved : goal.loop-place-preserved
loop-place-preserved c =
    let bytes = c.args.bytes.now in
    let p = c.loop-place.place in
    let small : slice_index bytes p < 256 = omega (arith, c.type_inv.bytes p) in (
      search (rules, length-set),
      pair_written bytes c.loop-place.digits p _ _ c.loop-place-test.true c.loop-place.invariant.0 (rw c.from-pair.ensures (high_at (slice_index bytes p) small)) (rw c.from-pair.ensures (low_at (slice_index bytes p) small)) c.loop-place.invariant.1,
    )

pub from_utf8_unchecked-requires : goal.from_utf8_unchecked-requires
from_utf8_unchecked-requires c =
    digits_utf8 c.args.bytes.now _ (all_written c.args.bytes.now c.loop-place.digits c.loop-place.place (omega (arith, c.loop-place-test.false)) c.loop-place.invariant.0 c.loop-place.invariant.1)

pub returns : goal.returns
returns c =
    c.from_utf8_unchecked.ensures ∙ all_written c.args.bytes.now c.loop-place.digits c.loop-place.place (omega (arith, c.loop-place-test.false)) c.loop-place.invariant.0 c.loop-place.invariant.1
