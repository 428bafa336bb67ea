use Rattle.std.proofs.Common.{drop}
use Rattle.json.specs.Written.{Written}
use Rattle.sentry_json.specs.Nodes.{items_data}
use Rattle.sentry_moments.specs.Moments.{moment_cell}
use Rattle.sentry_tables.specs.Passed.{ItemsPassedAt, ItemsRefusedAt}
use Rattle.sentry_rows.proofs.pass_row.pass_items_at.Given as goal

-- whatever passes the items that are left passes all of them, and where those are refused, all are
abbrev pub invariant-loop-item : goal.invariant-loop-item
invariant-loop-item g l =
    ((end : Written) → ItemsPassedAt (moment_cell l.now) g.X.Member.kind (items_data g.N.Node.data_of (drop l.item-index l.items)) l.out end → ItemsPassedAt (moment_cell l.now) g.X.Member.kind (items_data g.N.Node.data_of l.items) l.initial.out end)
    × (ItemsRefusedAt (moment_cell l.now) g.X.Member.kind (items_data g.N.Node.data_of (drop l.item-index l.items)) → ItemsRefusedAt (moment_cell l.now) g.X.Member.kind (items_data g.N.Node.data_of l.items))
