use Rattle.std.proofs.Common.{rules}
use Rattle.sentry_tables.proofs.ValuesShown.{under_read_at}
use Rattle.sentry_rows.proofs.timed.read_values_at.Goals as goal

pub returns : goal.returns
returns g c = under_read_at _ _ _ _ _ _ (search rules) (search rules) c.read_list_at-2.ensures
