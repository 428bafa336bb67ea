use Rattle.std.proofs.Common.{◌≤◌, length, drop}
use Rattle.sentry_json.specs.Nodes.{named_by}
use Rattle.sentry_tables.specs.Cells.{entries}
use Rattle.sentry_tables.specs.Cell.{Cell}
use Rattle.sentry_tables.specs.Shows.{Shows, MembersShow}
use Rattle.sentry_tables.proofs.read.read_each.Given as goal

-- the members that were read show what the map holds
abbrev pub invariant-loop-left : goal.invariant-loop-left
invariant-loop-left g l =
    (l.left ≤ length l.members) × ((now : Cell) → MembersShow (λ k. Shows g.T.Member.kind now) (named_by g.N.Node.data_of (drop l.left l.members)) (entries g.T.Member.cell_of l.map.entries))

abbrev pub decreases-loop-left : goal.decreases-loop-left
decreases-loop-left g l = l.left
