use Rattle.std.proofs.Common.{◌≤◌, arith, length, map, refl}
use Rattle.sentry_forward.proofs.Left.{nothing_left}
use Rattle.sentry_c.specs.Making.{both}
use Rattle.sentry_c.proofs.Joined.{all_pairs}
use Rattle.sentry_c.proofs.pairs.items_of.Goals as goal

pub returns : goal.returns
returns c =
    let end : length c.args.lengths.now ≤ c.loop-pair.pair-index = omega (arith, c.loop-pair-test.false) in
    let left = c.loop-pair.left.now in
    all_pairs c.args.texts.now c.args.lengths.now c.loop-pair.pair-index end (map both c.loop-pair.items.items) left c.loop-pair.invariant.goes (nothing_left left left c.is_empty.result refl c.is_empty.ensures c.if-not-is_empty.false)
