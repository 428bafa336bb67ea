use Rattle.std.proofs.Common.{drop}
use Rattle.json.specs.Written.{Written}
use Rattle.sentry_json.specs.Nodes.{items_data}
use Rattle.sentry_tables.specs.Passed.{ItemsPassed, ItemsRefused}
use Rattle.sentry_tables.proofs.pass.pass_items.Given as goal

-- whatever passes the items that are left passes all of them, and where those are refused, all are
abbrev pub invariant-loop-item : goal.invariant-loop-item
invariant-loop-item g l =
    ((end : Written) → ItemsPassed g.T.Member.kind (items_data g.N.Node.data_of (drop l.item-index l.items)) l.out end → ItemsPassed g.T.Member.kind (items_data g.N.Node.data_of l.items) l.initial.out end)
    × (ItemsRefused g.T.Member.kind (items_data g.N.Node.data_of (drop l.item-index l.items)) → ItemsRefused g.T.Member.kind (items_data g.N.Node.data_of l.items))
