use Rattle.std.proofs.Common.{refl}
use Rattle.sentry_event.specs.Spans.{span_fields}
use Rattle.sentry_event.proofs.span.SpanTable.rows.Goals as goal

pub returns : goal.returns
unfolding span_fields
returns g c = (_, c.map.ensures, (_, c.optional.ensures, (_, c.optional-2.ensures, (_, c.optional-3.ensures, (_, c.optional-4.ensures, (_, c.drawn_as.ensures, (_, c.at_once_as.ensures, (_, c.optional-5.ensures, (_, c.map-2.ensures, (_, c.optional_strict_as.ensures, (_, c.drawn_as-2.ensures, refl)))))))))))
