-- The table of responses by HTTP. Members of other keys are ignored.
use Rattle.std.specs.Prelude.{◌≡◌, ◌^◌, List, [], ◌∷◌, codes, true, refl}
use Rattle.serde_json.specs.Data.{no_members}
use Rattle.sentry_tables.specs.Cell.{Cell, fields, no_cells, cell}
use Rattle.sentry_tables.specs.Fields.{Field, field, rows_of, table_of, fields_by}
use Rattle.sentry_tables.specs.Kind.{may, default, Kind, map, keys}
use Rattle.sentry_tables.specs.Written.{in_order}
use Rattle.sentry_tables.specs.Cells.{text_cell, natural_cell, tree_cell, option_cell, map_cell, empty_map}
use Rattle.sentry_tables.specs.Kinds.{text_kind, unsigned_kind, any_kind}
use Rattle.sentry_contexts.specs.declared.response.ResponseContext.{ResponseContext}

unfoldable pub response_fields : List (Field ResponseContext)
response_fields =
    field (codes "body_size") may (unsigned_kind (2 ^ 64)) (λ r. option_cell natural_cell r.body_size)
    ∷ field (codes "cookies") may text_kind (λ r. option_cell text_cell r.cookies)
    ∷ field (codes "data") may any_kind (λ r. option_cell tree_cell r.data_)
    ∷ field (codes "headers") (default empty_map) (map text_kind) (λ r. map_cell text_cell r.headers.entries)
    ∷ field (codes "status_code") may (unsigned_kind (2 ^ 64)) (λ r. option_cell natural_cell r.status_code)
    ∷ []

abbrev pub response_kind : Kind
response_kind = table_of response_fields

abbrev pub response_cell : ResponseContext → Cell
response_cell r = fields_by response_fields r

pub response_in_order : in_order (keys (rows_of response_fields)) ≡ true
unfolding response_fields
response_in_order = refl

-- a response with these rows
abbrev pub response_with : Cell → Cell → Cell → Cell → Cell → Cell
response_with size cookies body headers status = fields (cell size (cell cookies (cell body (cell headers (cell status no_cells))))) no_members
