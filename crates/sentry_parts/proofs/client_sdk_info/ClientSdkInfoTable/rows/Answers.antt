use Rattle.std.proofs.Common.{refl}
use Rattle.sentry_parts.specs.ClientSdk.{sdk_fields}
use Rattle.sentry_parts.proofs.client_sdk_info.ClientSdkInfoTable.rows.Goals as goal

pub returns : goal.returns
unfolding sdk_fields
returns g c = (_, c.list.ensures, (_, c.required.ensures, (_, c.list-2.ensures, (_, c.required-2.ensures, refl))))
