-- The tables of what OpenTelemetry tells, where members of other keys are kept but for the tag, and of places in traces.
use Rattle.std.specs.Prelude.{◌≡◌, List, [], ◌∷◌, codes, true, refl}
use Rattle.serde_json.specs.View.{members_view}
use Rattle.rand_core.specs.Stream.{Stream, fill_bytes}
use Rattle.sentry_tables.specs.Cell.{Cell, fields}
use Rattle.sentry_tables.specs.Fields.{Field, field, rows_of, cells_by, table_of, fields_by}
use Rattle.sentry_tables.specs.Kind.{may, default, draw, Kind, map, table, keys}
use Rattle.sentry_tables.specs.Written.{in_order}
use Rattle.sentry_tables.specs.Cells.{text_cell, tree_cell, option_cell, map_cell, empty_map}
use Rattle.sentry_tables.specs.Kinds.{text_kind, any_kind}
use Rattle.sentry_tables.specs.Spelling.{word_cell}
use Rattle.sentry_identifiers.specs.HexId.{span_bytes, trace_bytes}
use Rattle.sentry_identifiers.specs.HexIdTree.{IsOctets, span_id_cell, span_id_kind, trace_id_cell, trace_id_kind}
use Rattle.sentry_words.specs.SpanStatus.{span_status_kind, span_status_word}
use Rattle.sentry_rows.specs.Cased.{but_tag}
use Rattle.sentry_contexts.specs.declared.otel.OtelContext.{OtelContext}
use Rattle.sentry_contexts.specs.declared.trace.TraceContext.{TraceContext}

-- ---- what OpenTelemetry tells

unfoldable pub otel_fields : List (Field OtelContext)
otel_fields =
    field (codes "attributes") (default empty_map) (map any_kind) (λ o. map_cell tree_cell o.attributes.entries)
    ∷ field (codes "resource") (default empty_map) (map any_kind) (λ o. map_cell tree_cell o.resource.entries)
    ∷ []

abbrev pub otel_kind : Kind
otel_kind = table (rows_of otel_fields) but_tag

abbrev pub otel_cell : OtelContext → Cell
otel_cell o = fields (cells_by otel_fields o) (members_view o.other.entries)

pub otel_in_order : in_order (keys (rows_of otel_fields)) ≡ true
unfolding otel_fields
otel_in_order = refl

-- ---- a place in a trace

unfoldable pub trace_context_fields : List (Field TraceContext)
trace_context_fields =
    field (codes "data") (default empty_map) (map any_kind) (λ t. map_cell tree_cell t.data_.entries)
    ∷ field (codes "description") may text_kind (λ t. option_cell text_cell t.description)
    ∷ field (codes "op") may text_kind (λ t. option_cell text_cell t.op)
    ∷ field (codes "origin") may text_kind (λ t. option_cell text_cell t.origin)
    ∷ field (codes "parent_span_id") may span_id_kind (λ t. option_cell span_id_cell t.parent_span_id)
    ∷ field (codes "span_id") (draw (IsOctets 8)) span_id_kind (λ t. span_id_cell t.span_id)
    ∷ field (codes "status") may span_status_kind (λ t. option_cell (word_cell span_status_word) t.status)
    ∷ field (codes "trace_id") (draw (IsOctets 16)) trace_id_kind (λ t. trace_id_cell t.trace_id)
    ∷ []

abbrev pub trace_context_kind : Kind
trace_context_kind = table_of trace_context_fields

abbrev pub trace_context_cell : TraceContext → Cell
trace_context_cell t = fields_by trace_context_fields t

pub trace_context_in_order : in_order (keys (rows_of trace_context_fields)) ≡ true
unfolding trace_context_fields
trace_context_in_order = refl

-- from one state of a generator to a later one the id of the span was drawn, and then that of the trace
abbrev pub DrawsIds : TraceContext → Stream → Stream → Type 0
DrawsIds t a z = (s : Stream) × ((span_bytes t.span_id, s) ≡ fill_bytes 8 a) × ((trace_bytes t.trace_id, z) ≡ fill_bytes 16 s)
