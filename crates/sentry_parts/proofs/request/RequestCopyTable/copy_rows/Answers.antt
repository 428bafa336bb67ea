use Rattle.std.proofs.Common.{refl}
use Rattle.sentry_parts.specs.Requests.{request_fields}
use Rattle.sentry_parts.proofs.request.RequestCopyTable.copy_rows.Goals as goal

pub returns : goal.returns
unfolding request_fields
returns c = (_, c.optional.ensures, (_, c.optional-2.ensures, (_, c.in_ok-map.ensures, (_, c.in_ok-map-2.ensures, (_, c.optional-3.ensures, (_, c.optional-4.ensures, (_, c.optional_as.ensures, refl)))))))
