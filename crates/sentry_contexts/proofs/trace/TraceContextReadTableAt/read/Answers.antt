use Rattle.std.proofs.Common.{inl, refl}
use Rattle.sentry_contexts.specs.Telemetry.{trace_context_fields}
use Rattle.sentry_contexts.proofs.trace.TraceContextReadTableAt.read.Goals as goal

pub returns : goal.returns
unfolding trace_context_fields
returns g c = (_, inl c.map.ensures, (_, inl c.optional.ensures, (_, inl c.optional-2.ensures, (_, inl c.optional-3.ensures, (_, inl c.optional-4.ensures, (_, inl c.drawn_as.ensures, (_, inl c.optional-5.ensures, (_, inl c.drawn_as-2.ensures, refl))))))))
