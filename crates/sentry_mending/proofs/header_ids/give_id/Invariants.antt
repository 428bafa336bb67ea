use Rattle.std.proofs.Common.{length}
use Rattle.std.specs.List.{All}
use Rattle.sentry_moments.specs.Moments.{moment_cell}
use Rattle.sentry_mending.specs.HeaderIds.{GivesId}
use Rattle.sentry_mending.proofs.header_ids.give_id.Given as goal

-- if the notes left put the id, all do
abbrev pub invariant-loop-note : goal.invariant-loop-note
invariant-loop-note l = All (GivesId (moment_cell l.fn.now) l.bytes) l.left → All (GivesId (moment_cell l.fn.now) l.bytes) l.notes

abbrev pub decreases-loop-note : goal.decreases-loop-note
decreases-loop-note l = length l.left
