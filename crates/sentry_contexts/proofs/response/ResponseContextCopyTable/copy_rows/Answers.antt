use Rattle.std.proofs.Common.{refl}
use Rattle.sentry_contexts.specs.Responses.{response_fields}
use Rattle.sentry_contexts.proofs.response.ResponseContextCopyTable.copy_rows.Goals as goal

pub returns : goal.returns
unfolding response_fields
returns c = (_, c.optional.ensures, (_, c.optional-2.ensures, (_, c.optional-3.ensures, (_, c.in_ok-map.ensures, (_, c.optional-4.ensures, refl)))))
