use Rattle.std.proofs.Common.{refl}
use Rattle.sentry_event.specs.Spans.{span_fields}
use Rattle.sentry_event.proofs.span.SpanCopyTable.copy_rows.Goals as goal

pub returns : goal.returns
unfolding span_fields
returns c = (_, c.in_ok-map.ensures, (_, c.optional.ensures, (_, c.optional-2.ensures, (_, c.optional-3.ensures, (_, c.optional-4.ensures, (_, c.plain.ensures, (_, c.plain_as.ensures, (_, c.optional-5.ensures, (_, c.in_ok-map-2.ensures, (_, c.optional_strict_as.ensures, (_, c.plain-2.ensures, refl)))))))))))
