use Rattle.std.proofs.Common.{◌≡◌, Some, rules}
use Rattle.serde_json.specs.Find.{as_object}
use Rattle.sentry_json.specs.Nodes.{named_by}
use Rattle.sentry_tables.proofs.Passing.{map_passed}
use Rattle.sentry_tables.proofs.read.MapStringFromTree.pass.Goals as goal

pub returns : goal.returns
returns g c =
    let ms = c.deref.result.now in
    let is : as_object (g.N.Node.data_of c.args.node.now) ≡ Some (named_by g.N.Node.data_of ms) = search rules in
    map_passed g.T.Member.kind _ (named_by g.N.Node.data_of ms) _ _ _ _ is c.in_ok-begin_object.ensures c.in_ok-pass_members.ensures c.in_ok-end_object.ensures
