use Rattle.sentry_tables.proofs.ScalarsShown.{signed_seen}
use Rattle.sentry_tables.proofs.read.node_as_i64.Goals as goal

pub returns : goal.returns
returns g c = signed_seen c.as_i64.result _ c.as_i64.ensures.value c.as_i64.ensures.ranged
