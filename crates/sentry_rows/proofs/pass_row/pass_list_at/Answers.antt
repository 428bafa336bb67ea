use Rattle.sentry_rows.proofs.PassedRows.{list_at_key}
use Rattle.sentry_rows.proofs.pass_row.pass_list_at.Goals as goal

pub returns : goal.returns
returns g c = list_at_key _ _ _ _ _ _ _ _ c.in_ok-key.ensures c.in_ok-begin_array.ensures c.in_ok-pass_items.ensures c.in_ok-end_array.ensures
