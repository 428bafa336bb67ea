use Rattle.std.proofs.Common.{rules}
use Rattle.sentry_tables.proofs.ValuesShown.{under_read}
use Rattle.sentry_tables.proofs.read.read_values.Goals as goal

pub returns : goal.returns
returns g c = under_read _ _ _ _ _ (search rules) (search rules) c.from_node-2.ensures
