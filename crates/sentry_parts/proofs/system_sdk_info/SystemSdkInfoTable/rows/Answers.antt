use Rattle.std.proofs.Common.{refl}
use Rattle.sentry_parts.specs.Debugging.{system_fields}
use Rattle.sentry_parts.proofs.system_sdk_info.SystemSdkInfoTable.rows.Goals as goal

pub returns : goal.returns
unfolding system_fields
returns g c = (_, c.required.ensures, (_, c.required-2.ensures, (_, c.required-3.ensures, (_, c.required-4.ensures, refl))))
