use Rattle.std.proofs.Common.{inl, inr, refl}
use Rattle.sentry_event.specs.Spans.{span_fields}
use Rattle.sentry_event.proofs.span.SpanReadTableAt.read.Goals as goal

pub returns : goal.returns
unfolding span_fields
returns g c = (_, inl c.map.ensures, (_, inl c.optional.ensures, (_, inl c.optional-2.ensures, (_, inl c.optional-3.ensures, (_, inl c.optional-4.ensures, (_, inl c.drawn_as.ensures, (_, inr c.at_once_as.ensures, (_, inl c.optional-5.ensures, (_, inl c.map-2.ensures, (_, inl c.optional_strict_as.ensures, (_, inl c.drawn_as-2.ensures, refl)))))))))))
