use Rattle.std.proofs.Common.{◌≡◌, Some, rules}
use Rattle.sentry_json.specs.Nodes.{items_data}
use Rattle.serde_json.specs.Find.{as_array}
use Rattle.sentry_tables.proofs.Passing.{list_passed}
use Rattle.sentry_tables.proofs.read.VecFromTree.pass.Goals as goal

pub returns : goal.returns
returns g c =
    let vs = c.deref.result.now in
    let is : as_array (g.N.Node.data_of c.args.node.now) ≡ Some (items_data g.N.Node.data_of vs) = search rules in
    list_passed g.T.Member.kind _ _ _ _ _ _ is c.in_ok-begin_array.ensures c.in_ok-pass_items.ensures c.in_ok-end_array.ensures
