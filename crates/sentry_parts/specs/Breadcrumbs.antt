-- The table of breadcrumbs. Members of other keys are ignored.
use Rattle.std.specs.Prelude.{◌≡◌, List, [], ◌∷◌, codes, true, refl}
use Rattle.sentry_tables.specs.Cell.{Cell, text}
use Rattle.sentry_tables.specs.Fields.{Field, field, rows_of, table_of, fields_by}
use Rattle.sentry_tables.specs.Kind.{may, default, at_once, Kind, map, keys}
use Rattle.sentry_tables.specs.Written.{in_order}
use Rattle.sentry_tables.specs.Cells.{text_cell, tree_cell, option_cell, map_cell, empty_map}
use Rattle.sentry_tables.specs.Kinds.{text_kind, any_kind}
use Rattle.sentry_tables.specs.Spelling.{word_cell}
use Rattle.sentry_words.specs.Level.{level_kind, level_word}
use Rattle.sentry_moments.specs.MomentForms.{seconds_kind}
use Rattle.sentry_moments.specs.Moments.{moment_cell}
use Rattle.sentry_parts.specs.declared.breadcrumb.Breadcrumb.{Breadcrumb}

unfoldable pub breadcrumb_fields : List (Field Breadcrumb)
breadcrumb_fields =
    field (codes "category") may text_kind (λ b. option_cell text_cell b.category)
    ∷ field (codes "data") (default empty_map) (map any_kind) (λ b. map_cell tree_cell b.data_.entries)
    ∷ field (codes "level") (default (text (codes "info"))) level_kind (λ b. word_cell level_word b.level)
    ∷ field (codes "message") may text_kind (λ b. option_cell text_cell b.message)
    ∷ field (codes "timestamp") at_once seconds_kind (λ b. moment_cell b.timestamp)
    ∷ field (codes "type") (default (text (codes "default"))) text_kind (λ b. text_cell b.ty)
    ∷ []

abbrev pub breadcrumb_kind : Kind
breadcrumb_kind = table_of breadcrumb_fields

abbrev pub breadcrumb_cell : Breadcrumb → Cell
breadcrumb_cell b = fields_by breadcrumb_fields b

pub breadcrumb_in_order : in_order (keys (rows_of breadcrumb_fields)) ≡ true
unfolding breadcrumb_fields
breadcrumb_in_order = refl
