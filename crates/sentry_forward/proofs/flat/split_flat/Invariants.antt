use Rattle.std.proofs.Common.{length, option_map}
use Rattle.sentry_forward.proofs.FlatHeaders.{Read}
use Rattle.sentry_forward.proofs.flat.split_flat.Given as goal

abbrev pub invariant-loop-name : goal.invariant-loop-name
invariant-loop-name l = Read l.fn.body l.left (option_map (λ w. w.now) l.word) l.length

abbrev pub decreases-loop-name : goal.decreases-loop-name
decreases-loop-name l = length l.left
