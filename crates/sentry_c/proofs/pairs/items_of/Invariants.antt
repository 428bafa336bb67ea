use Rattle.std.proofs.Common.{◌≡◌, ◌+◌, drop, length, map}
use Rattle.sentry_c.specs.Making.{both, total}
use Rattle.sentry_c.proofs.Joined.{GoOn}
use Rattle.sentry_c.proofs.pairs.items_of.Given as goal

abbrev pub invariant-loop-pair : goal.invariant-loop-pair
invariant-loop-pair l = record {
  goes : GoOn l.texts l.lengths (map both l.items.items) l.left (drop l.pair-index l.lengths);
  count : total (drop l.pair-index l.lengths) + length l.texts ≡ total l.lengths + length l.left;
}
