use Rattle.std.proofs.Common.{refl}
use Rattle.sentry_records.specs.Sessions.{group_fields}
use Rattle.sentry_records.proofs.session_aggregate_item.SessionAggregateItemCopyTable.copy_rows.Goals as goal

pub returns : goal.returns
unfolding group_fields
returns c = (_, c.plain.ensures, (_, c.plain-2.ensures, (_, c.optional.ensures, (_, c.plain-3.ensures, (_, c.plain-4.ensures, (_, c.plain_as.ensures, refl))))))
