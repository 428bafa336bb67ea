use Rattle.std.proofs.Common.{◌≡◌, ◌≤◌, ◌-◌, drop, length}
use Rattle.sentry_framing.proofs.Machine.{Plain, rest_after}
use Rattle.sentry_framing.proofs.piece.nested_len.Given as goal

abbrev pub invariant-loop-i : goal.invariant-loop-i
invariant-loop-i l = record {
  shallow : l.depth ≤ l.i;
  same : rest_after (drop l.i l.inside) Plain l.depth ≡ rest_after l.inside Plain 0;
}

abbrev pub decreases-loop-i : goal.decreases-loop-i
decreases-loop-i l = length l.inside - l.i
