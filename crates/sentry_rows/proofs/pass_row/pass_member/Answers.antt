use Rattle.sentry_rows.proofs.PassedRows.{member_passed}
use Rattle.sentry_rows.proofs.pass_row.pass_member.Goals as goal

pub returns : goal.returns
returns g c = member_passed _ _ _ _ _ _ c.in_ok-key.ensures c.in_ok-pass.ensures
