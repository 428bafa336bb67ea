use Rattle.sentry_rows.proofs.PassedRows.{member_wrote}
use Rattle.sentry_rows.proofs.pass_row.give_unless.Goals as goal

pub returns : goal.returns
returns g c = rw c.if-omitted.false (member_wrote _ _ _ _ _ c.in_ok-key.ensures c.in_ok-write.ensures)
