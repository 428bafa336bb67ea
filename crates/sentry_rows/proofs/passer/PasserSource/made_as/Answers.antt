use Rattle.std.proofs.Common.{refl}
use Rattle.sentry_rows.proofs.PassedRows.{given_default}
use Rattle.sentry_rows.proofs.Passing.{row_given_as}
use Rattle.sentry_rows.proofs.passer.PasserSource.made_as.Goals as goal

pub returns : goal.returns
returns g c = row_given_as g.N.Node.data_of _ _ _ _ _ _ _ _ _ _ c.made_as-value.ensures (given_default _ _ _ _ _ c.is_usual.ensures) c.give_unless-given.ensures refl c.keep.ensures
