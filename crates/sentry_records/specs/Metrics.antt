-- The table of metrics. Members of other keys are ignored.
use Rattle.std.specs.Prelude.{◌≡◌, ◌^◌, List, [], ◌∷◌, codes, true, refl}
use Rattle.sentry_tables.specs.Cell.{Cell, whole}
use Rattle.sentry_tables.specs.Fields.{Field, field, rows_of, table_of, fields_by}
use Rattle.sentry_tables.specs.Kind.{must, may, default, Kind, map, keys}
use Rattle.sentry_tables.specs.Written.{in_order}
use Rattle.sentry_tables.specs.Cells.{cow_cell, option_cell, map_cell, empty_map}
use Rattle.sentry_tables.specs.Kinds.{text_kind, signed_kind}
use Rattle.sentry_tables.specs.Spelling.{word_cell}
use Rattle.sentry_identifiers.specs.HexIdTree.{span_id_cell, span_id_kind, trace_id_cell, trace_id_kind}
use Rattle.sentry_moments.specs.MomentForms.{seconds_kind}
use Rattle.sentry_moments.specs.Moments.{moment_cell}
use Rattle.sentry_words.specs.Units.{unit_cell, unit_kind}
use Rattle.sentry_words.specs.MetricType.{metric_type_kind, metric_type_word}
use Rattle.sentry_records.specs.LogAttribute.{attribute_cell, attribute_kind}
use Rattle.sentry_records.specs.declared.metric.Metric.{Metric}

unfoldable pub metric_fields : List (Field Metric)
metric_fields =
    field (codes "attributes") (default empty_map) (map attribute_kind) (λ m. map_cell attribute_cell m.attributes.entries)
    ∷ field (codes "name") must text_kind (λ m. cow_cell m.name)
    ∷ field (codes "span_id") may span_id_kind (λ m. option_cell span_id_cell m.span_id)
    ∷ field (codes "timestamp") must seconds_kind (λ m. moment_cell m.timestamp)
    ∷ field (codes "trace_id") must trace_id_kind (λ m. trace_id_cell m.trace_id)
    ∷ field (codes "type") must metric_type_kind (λ m. word_cell metric_type_word m.type_)
    ∷ field (codes "unit") may unit_kind (λ m. option_cell unit_cell m.unit)
    ∷ field (codes "value") must (signed_kind (2 ^ 63)) (λ m. whole m.value)
    ∷ []

abbrev pub metric_kind : Kind
metric_kind = table_of metric_fields

abbrev pub metric_cell : Metric → Cell
metric_cell m = fields_by metric_fields m

pub metric_in_order : in_order (keys (rows_of metric_fields)) ≡ true
unfolding metric_fields
metric_in_order = refl
