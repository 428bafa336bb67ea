-- The table of what users say of events. Members of other keys are ignored.
use Rattle.std.specs.Prelude.{◌≡◌, List, [], ◌∷◌, codes, true, refl}
use Rattle.sentry_tables.specs.Cell.{Cell, octets}
use Rattle.sentry_tables.specs.Fields.{Field, field, rows_of, table_of, fields_by}
use Rattle.sentry_tables.specs.Kind.{must, may, Kind, keys}
use Rattle.sentry_tables.specs.Written.{in_order}
use Rattle.sentry_tables.specs.Cells.{text_cell, option_cell}
use Rattle.sentry_tables.specs.Kinds.{text_kind}
use Rattle.sentry_identifiers.specs.Uuids.{simple_kind}
use Rattle.sentry_records.specs.declared.user_report.UserReport.{UserReport}

unfoldable pub user_report_fields : List (Field UserReport)
user_report_fields =
    field (codes "comments") must text_kind (λ r. text_cell r.comments)
    ∷ field (codes "email") may text_kind (λ r. option_cell text_cell r.email)
    ∷ field (codes "event_id") must simple_kind (λ r. octets r.event_id)
    ∷ field (codes "name") may text_kind (λ r. option_cell text_cell r.name)
    ∷ []

abbrev pub user_report_kind : Kind
user_report_kind = table_of user_report_fields

abbrev pub user_report_cell : UserReport → Cell
user_report_cell r = fields_by user_report_fields r

pub user_report_in_order : in_order (keys (rows_of user_report_fields)) ≡ true
unfolding user_report_fields
user_report_in_order = refl
