use Rattle.std.proofs.Common.{refl}
use Rattle.sentry_records.specs.Sessions.{group_fields}
use Rattle.sentry_records.proofs.session_aggregate_item.SessionAggregateItemTable.rows.Goals as goal

pub returns : goal.returns
unfolding group_fields
returns g c = (_, c.unless.ensures, (_, c.unless-2.ensures, (_, c.optional.ensures, (_, c.unless-3.ensures, (_, c.unless-4.ensures, (_, c.required_as.ensures, refl))))))
