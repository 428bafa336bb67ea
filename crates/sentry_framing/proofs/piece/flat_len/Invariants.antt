use Rattle.std.proofs.Common.{◌-◌, length}
use Rattle.sentry_framing.proofs.Flat.{IsPassed}
use Rattle.sentry_framing.proofs.piece.flat_len.Given as goal

abbrev pub invariant-loop-end : goal.invariant-loop-end
invariant-loop-end l = IsPassed l.inside l.end l.quotes

abbrev pub decreases-loop-end : goal.decreases-loop-end
decreases-loop-end l = length l.inside - l.end

abbrev pub invariant-loop-end-2 : goal.invariant-loop-end-2
invariant-loop-end-2 l = IsPassed l.inside l.end l.quotes

abbrev pub decreases-loop-end-2 : goal.decreases-loop-end-2
decreases-loop-end-2 l = length l.inside - l.end
