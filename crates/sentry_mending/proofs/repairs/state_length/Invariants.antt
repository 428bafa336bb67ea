use Rattle.std.proofs.Common.{length}
use Rattle.std.specs.List.{All}
use Rattle.sentry_mending.specs.MendedItems.{StatesLength}
use Rattle.sentry_mending.proofs.repairs.state_length.Given as goal

-- if the notes left state the length, all do
abbrev pub invariant-loop-note : goal.invariant-loop-note
invariant-loop-note l = All (StatesLength l.payload) l.left → All (StatesLength l.payload) l.notes

abbrev pub decreases-loop-note : goal.decreases-loop-note
decreases-loop-note l = length l.left
