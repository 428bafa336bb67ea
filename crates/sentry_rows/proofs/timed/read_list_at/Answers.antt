use Rattle.std.proofs.Common.{◌≡◌, Some, take, arith, rules}
use Rattle.std.proofs.lemmas.List.{take_all}
use Rattle.sentry_json.specs.Nodes.{items_data}
use Rattle.serde_json.specs.Find.{as_array}
use Rattle.sentry_tables.specs.Reading.{Only, RefusedAt}
use Rattle.sentry_tables.specs.Kind.{list}
use Rattle.sentry_moments.specs.Moments.{moment_cell}
use Rattle.sentry_tables.proofs.ListsShown.{list_fails_at, list_shown_at, each_more_at, shown_here}
use Rattle.sentry_rows.proofs.timed.read_list_at.Goals as goal

pub returns-in_err-from_node : goal.returns-in_err-from_node
returns-in_err-from_node g c =
    let vs = c.deref-item-items.result.now in
    let is : as_array (g.N.Node.data_of c.args.node.now) ≡ Some (items_data g.N.Node.data_of vs) = search rules in
    let h : Only c.in_err-from_node.field-0.0 (RefusedAt (moment_cell c.args.now) (list g.T.Member.kind) (g.N.Node.data_of c.args.node.now)) = list_fails_at g.N.Node.data_of _ _ _ vs c.loop-item.item-index c.item-item.result _ is (omega arith) c.item-item.is c.in_err-from_node.ensures in
    search rules

pub loop-item-preserved : goal.loop-item-preserved
loop-item-preserved g c = each_more_at g.N.Node.data_of _ _ c.deref-item-items.result.now c.loop-item.item-index c.item-item.result _ _ _ (omega arith) c.item-item.is c.in_ok-push.ensures.items c.loop-item.invariant (shown_here _ _ _ _ c.in_ok-from_node.ensures)

pub returns : goal.returns
returns g c =
    let vs = c.deref-item-items.result.now in
    let is : as_array (g.N.Node.data_of c.args.node.now) ≡ Some (items_data g.N.Node.data_of vs) = search rules in
    let ends : take c.loop-item.item-index vs ≡ vs = take_all c.loop-item.item-index vs (omega arith) in
    list_shown_at g.N.Node.data_of _ _ _ _ vs _ is (rw ends at c.loop-item.invariant)
