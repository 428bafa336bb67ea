use Rattle.std.proofs.Common.{refl}
use Rattle.sentry_rows.proofs.Passing.{row_kept_at}
use Rattle.sentry_rows.proofs.passer.PasserSource.required_list_at.Goals as goal

pub returns : goal.returns
returns g c = row_kept_at g.N.Node.data_of _ _ _ _ _ _ _ _ _ c.pass_required_list_at-passed.ensures refl c.keep.ensures
