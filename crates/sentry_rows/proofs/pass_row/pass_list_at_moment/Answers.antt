use Rattle.sentry_rows.proofs.PassedRows.{list_at_key_now}
use Rattle.sentry_rows.proofs.pass_row.pass_list_at_moment.Goals as goal

pub returns : goal.returns
returns g c = list_at_key_now _ _ _ _ _ _ _ _ _ c.in_ok-key.ensures c.in_ok-begin_array.ensures c.in_ok-pass_items_at.ensures c.in_ok-end_array.ensures
