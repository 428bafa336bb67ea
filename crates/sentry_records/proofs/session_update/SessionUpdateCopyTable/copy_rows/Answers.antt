use Rattle.std.proofs.Common.{refl}
use Rattle.sentry_records.specs.Sessions.{session_fields}
use Rattle.sentry_records.proofs.session_update.SessionUpdateCopyTable.copy_rows.Goals as goal

pub returns : goal.returns
unfolding session_fields
returns c = (_, c.in_ok-of.ensures, (_, c.optional.ensures, (_, c.optional-2.ensures, (_, c.plain.ensures, (_, c.plain-2.ensures, (_, c.optional-3.ensures, (_, c.plain_as.ensures, (_, c.plain_as-2.ensures, (_, c.plain-3.ensures, (_, c.optional_strict_as.ensures, refl))))))))))
