use Rattle.std.proofs.Common.{◌≡◌, ◌++◌, drop, map}
use Rattle.sentry_c.specs.Making.{both, pair_of}
use Rattle.sentry_c.proofs.pairs.members_of.Given as goal

abbrev pub invariant-loop-pair : goal.invariant-loop-pair
invariant-loop-pair l = map pair_of l.members.items ++ map both (drop l.pair-index l.pairs) ≡ map both l.pairs
