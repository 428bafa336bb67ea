use Rattle.std.proofs.Common.{drop}
use Rattle.sentry_forward.proofs.Losing.{SoFar}
use Rattle.sentry_forward.proofs.forwarding.loses_main.Given as goal

abbrev pub invariant-loop-i : goal.invariant-loop-i
invariant-loop-i l = SoFar l.fn.frames l.fn.answers l.lost (drop l.i l.fn.frames) (drop l.i l.fn.answers)
