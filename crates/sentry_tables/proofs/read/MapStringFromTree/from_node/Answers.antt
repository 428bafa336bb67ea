use Rattle.sentry_json.specs.Nodes.{named_by}
use Rattle.sentry_tables.proofs.ListsShown.{map_shown}
use Rattle.sentry_tables.proofs.read.MapStringFromTree.from_node.Goals as goal

pub returns-in-Ok : goal.returns-in-Ok
returns-in-Ok g c = map_shown _ _ _ (named_by g.N.Node.data_of c.in_ok-members.members.items) _ c.in_ok-members.ensures.ok c.in-Ok.ensures
