use Rattle.std.proofs.Common.{length}
use Rattle.sentry_limits.proofs.Counting.{IsCounted}
use Rattle.sentry_limits.proofs.sizes.measure.Given as goal

-- what is read so far is counted
abbrev pub invariant-loop-next : goal.invariant-loop-next
invariant-loop-next l = IsCounted l.bytes l.reader.rest l.measured

abbrev pub decreases-loop-next : goal.decreases-loop-next
decreases-loop-next l = length l.reader.rest
