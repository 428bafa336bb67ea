-- The table of logs. Members of other keys are ignored.
use Rattle.std.specs.Prelude.{◌≡◌, List, [], ◌∷◌, codes, true, refl}
use Rattle.sentry_tables.specs.Cell.{Cell}
use Rattle.sentry_tables.specs.Fields.{Field, field, rows_of, table_of, fields_by}
use Rattle.sentry_tables.specs.Kind.{must, may, default, Kind, map, keys}
use Rattle.sentry_tables.specs.Written.{in_order}
use Rattle.sentry_tables.specs.Cells.{text_cell, natural_cell, option_cell, map_cell, empty_map}
use Rattle.sentry_tables.specs.Kinds.{text_kind}
use Rattle.sentry_tables.specs.Spelling.{word_cell}
use Rattle.sentry_identifiers.specs.HexIdTree.{trace_id_cell, trace_id_kind}
use Rattle.sentry_moments.specs.MomentForms.{seconds_kind}
use Rattle.sentry_moments.specs.Moments.{moment_cell}
use Rattle.sentry_text.specs.Severity.{severity_kind}
use Rattle.sentry_words.specs.LogLevel.{log_level_kind, log_level_word}
use Rattle.sentry_records.specs.LogAttribute.{attribute_cell, attribute_kind}
use Rattle.sentry_records.specs.declared.log.Log.{Log}

unfoldable pub log_fields : List (Field Log)
log_fields =
    field (codes "attributes") (default empty_map) (map attribute_kind) (λ l. map_cell attribute_cell l.attributes.entries)
    ∷ field (codes "body") must text_kind (λ l. text_cell l.body)
    ∷ field (codes "level") must log_level_kind (λ l. word_cell log_level_word l.level)
    ∷ field (codes "severity_number") may severity_kind (λ l. option_cell natural_cell l.severity_number)
    ∷ field (codes "timestamp") must seconds_kind (λ l. moment_cell l.timestamp)
    ∷ field (codes "trace_id") may trace_id_kind (λ l. option_cell trace_id_cell l.trace_id)
    ∷ []

abbrev pub log_kind : Kind
log_kind = table_of log_fields

abbrev pub log_cell : Log → Cell
log_cell l = fields_by log_fields l

pub log_in_order : in_order (keys (rows_of log_fields)) ≡ true
unfolding log_fields
log_in_order = refl
