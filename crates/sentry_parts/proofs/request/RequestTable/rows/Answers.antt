use Rattle.std.proofs.Common.{refl}
use Rattle.sentry_parts.specs.Requests.{request_fields}
use Rattle.sentry_parts.proofs.request.RequestTable.rows.Goals as goal

pub returns : goal.returns
unfolding request_fields
returns g c = (_, c.optional.ensures, (_, c.optional-2.ensures, (_, c.map.ensures, (_, c.map-2.ensures, (_, c.optional-3.ensures, (_, c.optional-4.ensures, (_, c.optional_as.ensures, refl)))))))
