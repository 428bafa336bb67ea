use Rattle.std.proofs.Common.{refl}
use Rattle.sentry_records.specs.Logs.{log_fields}
use Rattle.sentry_records.proofs.log.LogCopyTable.copy_rows.Goals as goal

pub returns : goal.returns
unfolding log_fields
returns c = (_, c.in_ok-map.ensures, (_, c.text.ensures, (_, c.plain.ensures, (_, c.optional.ensures, (_, c.plain_as.ensures, (_, c.optional-2.ensures, refl))))))
