use Rattle.std.proofs.Common.{refl}
use Rattle.sentry_records.specs.Sessions.{group_fields}
use Rattle.sentry_records.proofs.session_aggregate_item.SessionAggregateItemReadTable.read.Goals as goal

pub returns : goal.returns
unfolding group_fields
returns g c = (_, c.or.ensures, (_, c.or-2.ensures, (_, c.optional.ensures, (_, c.or-3.ensures, (_, c.or-4.ensures, (_, c.required_as.ensures, refl))))))
