use Rattle.std.proofs.Common.{refl}
use Rattle.sentry_contexts.specs.Devices.{device_fields}
use Rattle.sentry_contexts.proofs.device.DeviceContextKeptTable.read.Goals as goal

pub returns : goal.returns
unfolding device_fields
returns g c = (_, (_, c.optional.ensures, (_, c.optional-2.ensures, (_, c.optional_strict_as.ensures, (_, c.optional-3.ensures, (_, c.optional-4.ensures, (_, c.optional-5.ensures, (_, c.optional-6.ensures, (_, c.optional-7.ensures, (_, c.optional-8.ensures, (_, c.optional-9.ensures, (_, c.optional-10.ensures, (_, c.optional-11.ensures, (_, c.optional-12.ensures, (_, c.optional-13.ensures, (_, c.optional-14.ensures, (_, c.optional-15.ensures, (_, c.optional-16.ensures, refl))))))))))))))))), rw c.names.ensures at c.others.ensures)
