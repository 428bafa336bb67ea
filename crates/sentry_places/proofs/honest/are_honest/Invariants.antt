use Rattle.std.proofs.Common.{All, length}
use Rattle.sentry_places.specs.Honest.{IsHonest}
use Rattle.sentry_places.proofs.honest.are_honest.Given as goal

-- if the notes left are honest, all are
abbrev pub invariant-loop-note : goal.invariant-loop-note
invariant-loop-note g l = All (IsHonest g.T.Times.is_time l.bytes) l.left → All (IsHonest g.T.Times.is_time l.bytes) l.notes

abbrev pub decreases-loop-note : goal.decreases-loop-note
decreases-loop-note g l = length l.left
