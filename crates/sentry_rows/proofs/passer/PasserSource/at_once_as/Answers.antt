use Rattle.std.proofs.Common.{refl}
use Rattle.sentry_rows.proofs.PassedRows.{given_at_once}
use Rattle.sentry_rows.proofs.Passing.{row_given_at}
use Rattle.sentry_rows.proofs.passer.PasserSource.at_once_as.Goals as goal

pub returns : goal.returns
returns g c = row_given_at g.N.Node.data_of _ _ _ _ _ _ _ _ _ _ _ c.at_once_as-value.ensures (given_at_once _ _ _) c.give_unless-given.ensures refl c.keep.ensures
