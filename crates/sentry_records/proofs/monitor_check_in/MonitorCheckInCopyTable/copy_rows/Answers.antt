use Rattle.std.proofs.Common.{refl}
use Rattle.sentry_records.specs.Monitors.{check_in_fields}
use Rattle.sentry_records.proofs.monitor_check_in.MonitorCheckInCopyTable.copy_rows.Goals as goal

pub returns : goal.returns
unfolding check_in_fields
returns c = (_, c.plain_as.ensures, (_, c.optional.ensures, (_, c.optional-2.ensures, (_, c.optional-3.ensures, (_, c.text.ensures, (_, c.plain.ensures, refl))))))
