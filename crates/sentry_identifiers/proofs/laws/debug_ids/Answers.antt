use Rattle.sentry_identifiers.proofs.DebugIds.{debug_id_of_iff, written_debug_id}
use Rattle.sentry_identifiers.proofs.laws.debug_ids.Goals as goal

pub returns-clause-texts : goal.returns-clause-texts
returns-clause-texts c = debug_id_of_iff

pub returns-clause-read_back : goal.returns-clause-read_back
returns-clause-read_back c = written_debug_id
