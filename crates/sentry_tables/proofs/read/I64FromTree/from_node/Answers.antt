use Rattle.std.proofs.Common.{◌^◌}
use Rattle.sentry_tables.proofs.ScalarsShown.{signed_read}
use Rattle.sentry_tables.proofs.read.I64FromTree.from_node.Goals as goal

pub returns : goal.returns
returns g c = signed_read (2 ^ 63) _ c.node_as_i64.result _ c.node_as_i64.ensures c.ok_or.ensures.value
