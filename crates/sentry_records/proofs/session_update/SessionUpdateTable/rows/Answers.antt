use Rattle.std.proofs.Common.{refl}
use Rattle.sentry_records.specs.Sessions.{session_fields}
use Rattle.sentry_records.proofs.session_update.SessionUpdateTable.rows.Goals as goal

pub returns : goal.returns
unfolding session_fields
returns g c = (_, c.required.ensures, (_, c.optional_or_null.ensures, (_, c.optional.ensures, (_, c.always.ensures _, (_, c.unless.ensures, (_, c.optional-2.ensures, (_, c.drawn_as.ensures, (_, c.at_once_as.ensures, (_, c.always-2.ensures _, (_, c.optional_strict_as.ensures, refl))))))))))
