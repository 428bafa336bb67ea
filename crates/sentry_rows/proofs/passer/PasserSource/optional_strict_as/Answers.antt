use Rattle.std.proofs.Common.{refl}
use Rattle.sentry_rows.proofs.Passing.{row_kept}
use Rattle.sentry_rows.proofs.passer.PasserSource.optional_strict_as.Goals as goal

pub returns : goal.returns
returns g c = row_kept g.N.Node.data_of _ _ _ _ _ _ _ _ c.pass_strict-passed.ensures refl c.keep.ensures
