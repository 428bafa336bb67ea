-- The table of HTTP requests. Members of other keys are ignored.
use Rattle.std.specs.Prelude.{◌≡◌, List, [], ◌∷◌, codes, true, refl}
use Rattle.sentry_tables.specs.Cell.{Cell}
use Rattle.sentry_tables.specs.Fields.{Field, field, rows_of, table_of, fields_by}
use Rattle.sentry_tables.specs.Kind.{may, default, Kind, map, keys}
use Rattle.sentry_tables.specs.Written.{in_order}
use Rattle.sentry_tables.specs.Cells.{text_cell, option_cell, map_cell, empty_map}
use Rattle.sentry_tables.specs.Kinds.{text_kind}
use Rattle.sentry_text.specs.UrlTree.{url_cell, url_kind}
use Rattle.sentry_parts.specs.declared.request.Request.{Request}

unfoldable pub request_fields : List (Field Request)
request_fields =
    field (codes "cookies") may text_kind (λ r. option_cell text_cell r.cookies)
    ∷ field (codes "data") may text_kind (λ r. option_cell text_cell r.data_)
    ∷ field (codes "env") (default empty_map) (map text_kind) (λ r. map_cell text_cell r.env.entries)
    ∷ field (codes "headers") (default empty_map) (map text_kind) (λ r. map_cell text_cell r.headers.entries)
    ∷ field (codes "method") may text_kind (λ r. option_cell text_cell r.method)
    ∷ field (codes "query_string") may text_kind (λ r. option_cell text_cell r.query_string)
    ∷ field (codes "url") may url_kind (λ r. option_cell url_cell r.url)
    ∷ []

abbrev pub request_kind : Kind
request_kind = table_of request_fields

abbrev pub request_cell : Request → Cell
request_cell r = fields_by request_fields r

pub request_in_order : in_order (keys (rows_of request_fields)) ≡ true
unfolding request_fields
request_in_order = refl
