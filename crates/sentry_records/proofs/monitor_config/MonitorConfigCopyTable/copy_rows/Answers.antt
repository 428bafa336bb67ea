use Rattle.std.proofs.Common.{refl}
use Rattle.sentry_records.specs.Monitors.{config_fields}
use Rattle.sentry_records.proofs.monitor_config.MonitorConfigCopyTable.copy_rows.Goals as goal

pub returns : goal.returns
unfolding config_fields
returns c = (_, c.optional.ensures, (_, c.optional-2.ensures, (_, c.optional-3.ensures, (_, c.optional-4.ensures, (_, c.in_ok-of.ensures, (_, c.optional-5.ensures, refl))))))
