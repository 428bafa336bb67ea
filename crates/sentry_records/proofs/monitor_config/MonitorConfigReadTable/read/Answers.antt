use Rattle.std.proofs.Common.{refl}
use Rattle.sentry_records.specs.Monitors.{config_fields}
use Rattle.sentry_records.proofs.monitor_config.MonitorConfigReadTable.read.Goals as goal

pub returns : goal.returns
unfolding config_fields
returns g c = (_, c.optional.ensures, (_, c.optional-2.ensures, (_, c.optional-3.ensures, (_, c.optional-4.ensures, (_, c.required.ensures, (_, c.optional-5.ensures, refl))))))
