use Rattle.sentry_identifiers.specs.Uuids.{simple}
use Rattle.sentry_identifiers.proofs.uuids.SimpleReadCodecUuid.from_node.Goals as goal

pub returns : goal.returns
returns g c = c.read_uuid.ensures simple
