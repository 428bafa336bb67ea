use Rattle.std.proofs.Common.{refl}
use Rattle.sentry_rows.proofs.PassedRows.{given_drawn}
use Rattle.sentry_rows.proofs.Passing.{row_given_as}
use Rattle.sentry_rows.proofs.passer.PasserSource.drawn_as.Goals as goal

pub returns : goal.returns
returns g c = row_given_as g.N.Node.data_of _ _ _ _ _ _ _ _ _ _ c.drawn_as-value.ensures (given_drawn _ _ _ _) c.give_unless-given.ensures refl c.keep.ensures
