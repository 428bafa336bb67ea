-- The table of spans. Members of other keys are ignored.
use Rattle.std.specs.Prelude.{◌≡◌, ℕ, List, [], ◌∷◌, ◌++◌, codes, Some, true, refl}
use Rattle.rand_core.specs.Stream.{Stream, fill_bytes}
use Rattle.hex.specs.Hex.{encode_lower}
use Rattle.sentry_tables.specs.Cell.{Cell, truth}
use Rattle.sentry_tables.specs.Fields.{Field, field, rows_of, table_of, fields_by}
use Rattle.sentry_tables.specs.Kind.{may, may_strict, default, draw, at_once, Kind, map, keys}
use Rattle.sentry_tables.specs.Written.{in_order}
use Rattle.sentry_tables.specs.Cells.{text_cell, tree_cell, option_cell, map_cell, empty_map}
use Rattle.sentry_tables.specs.Kinds.{text_kind, truth_kind, any_kind}
use Rattle.sentry_tables.specs.Spelling.{word_cell}
use Rattle.sentry_words.specs.SpanStatus.{span_status_kind, span_status_word}
use Rattle.sentry_moments.specs.MomentForms.{rfc3339_kind, seconds_kind}
use Rattle.sentry_moments.specs.Moments.{moment_cell}
use Rattle.sentry_moments.specs.MomentTexts.{rfc3339_text}
use Rattle.sentry_moments.specs.declared.moment.Moment.{Moment}
use Rattle.sentry_identifiers.specs.HexId.{span_bytes, trace_bytes}
use Rattle.sentry_identifiers.specs.HexIdTree.{IsOctets, span_id_cell, span_id_kind, trace_id_cell, trace_id_kind}
use Rattle.sentry_event.specs.declared.span.Span.{Span}

unfoldable pub span_fields : List (Field Span)
span_fields =
    field (codes "data") (default empty_map) (map any_kind) (λ s. map_cell tree_cell s.data_.entries)
    ∷ field (codes "description") may text_kind (λ s. option_cell text_cell s.description)
    ∷ field (codes "op") may text_kind (λ s. option_cell text_cell s.op)
    ∷ field (codes "parent_span_id") may span_id_kind (λ s. option_cell span_id_cell s.parent_span_id)
    ∷ field (codes "same_process_as_parent") may truth_kind (λ s. option_cell truth s.same_process_as_parent)
    ∷ field (codes "span_id") (draw (IsOctets 8)) span_id_kind (λ s. span_id_cell s.span_id)
    ∷ field (codes "start_timestamp") at_once seconds_kind (λ s. moment_cell s.start_timestamp)
    ∷ field (codes "status") may span_status_kind (λ s. option_cell (word_cell span_status_word) s.status)
    ∷ field (codes "tags") (default empty_map) (map text_kind) (λ s. map_cell text_cell s.tags.entries)
    ∷ field (codes "timestamp") may_strict rfc3339_kind (λ s. option_cell moment_cell s.timestamp)
    ∷ field (codes "trace_id") (draw (IsOctets 16)) trace_id_kind (λ s. trace_id_cell s.trace_id)
    ∷ []

abbrev pub span_kind : Kind
span_kind = table_of span_fields

abbrev pub span_cell : Span → Cell
span_cell s = fields_by span_fields s

pub span_in_order : in_order (keys (rows_of span_fields)) ≡ true
unfolding span_fields
span_in_order = refl

-- as a text: the id and when it began
abbrev pub span_text : Span → List ℕ
span_text s = codes "Span(id: " ++ (encode_lower (span_bytes s.span_id) ++ (codes ", ts: " ++ (rfc3339_text s.start_timestamp.secs s.start_timestamp.nanos ++ codes ")")))

-- from one state of a generator to a later one the id of the span was drawn, and then that of the trace
abbrev pub DrawsIds : Span → Stream → Stream → Type 0
DrawsIds s a z = (m : Stream) × ((span_bytes s.span_id, m) ≡ fill_bytes 8 a) × ((trace_bytes s.trace_id, z) ≡ fill_bytes 16 m)

-- the one ends at that moment, and is the other in all else
abbrev pub EndsAt : Moment → Span → Span → Type 0
EndsAt end old new = new ≡ record old { timestamp = Some end }
