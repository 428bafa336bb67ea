use Rattle.sentry_identifiers.specs.Uuids.{hyphenated}
use Rattle.sentry_identifiers.proofs.uuids.HyphenatedReadCodecUuid.from_node.Goals as goal

pub returns : goal.returns
returns g c = c.read_uuid.ensures hyphenated
