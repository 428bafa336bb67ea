use Rattle.sentry_identifiers.proofs.HexIds.{hex_id_of_iff, written_id}
use Rattle.sentry_identifiers.proofs.laws.hex_ids.Goals as goal

pub returns-clause-texts : goal.returns-clause-texts
returns-clause-texts c = hex_id_of_iff

pub returns-clause-read_back : goal.returns-clause-read_back
returns-clause-read_back c = written_id
