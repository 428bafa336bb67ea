use Rattle.std.proofs.Common.{refl}
use Rattle.sentry_contexts.specs.Telemetry.{trace_context_fields}
use Rattle.sentry_contexts.proofs.trace.TraceContextCopyTable.copy_rows.Goals as goal

pub returns : goal.returns
unfolding trace_context_fields
returns c = (_, c.in_ok-map.ensures, (_, c.optional.ensures, (_, c.optional-2.ensures, (_, c.optional-3.ensures, (_, c.optional-4.ensures, (_, c.plain.ensures, (_, c.optional-5.ensures, (_, c.plain-2.ensures, refl))))))))
