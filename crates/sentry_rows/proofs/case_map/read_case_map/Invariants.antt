use Rattle.std.proofs.Common.{◌≤◌, length, drop}
use Rattle.sentry_json.specs.Nodes.{named_by}
use Rattle.sentry_tables.specs.Shows.{MembersShow}
use Rattle.sentry_tables.specs.Cells.{entries}
use Rattle.sentry_moments.specs.Moments.{moment_cell}
use Rattle.sentry_rows.specs.Cased.{ShowsEntry}
use Rattle.sentry_rows.proofs.case_map.read_case_map.Given as goal

-- the members that were read show what the map holds
abbrev pub invariant-loop-left : goal.invariant-loop-left
invariant-loop-left g l =
    (l.left ≤ length l.members.items) × MembersShow (ShowsEntry g.T.Cased.cases l.fallback (moment_cell l.now)) (named_by g.N.Node.data_of (drop l.left l.members.items)) (entries g.T.Cased.choice_of l.map.entries)

abbrev pub decreases-loop-left : goal.decreases-loop-left
decreases-loop-left g l = l.left
