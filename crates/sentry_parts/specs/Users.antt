-- The table of users. Members of other keys are kept.
use Rattle.std.specs.Prelude.{◌≡◌, List, [], ◌∷◌, codes, true, refl}
use Rattle.serde_json.specs.View.{members_view}
use Rattle.sentry_tables.specs.Cell.{Cell, fields}
use Rattle.sentry_tables.specs.Fields.{Field, field, rows_of, cells_by}
use Rattle.sentry_tables.specs.Kind.{may, Kind, kept, table, keys}
use Rattle.sentry_tables.specs.Written.{in_order}
use Rattle.sentry_tables.specs.Cells.{text_cell, option_cell}
use Rattle.sentry_tables.specs.Kinds.{text_kind}
use Rattle.sentry_text.specs.IpTree.{ip_address_kind, ip_address_cell}
use Rattle.sentry_parts.specs.declared.user.User.{User}

unfoldable pub user_fields : List (Field User)
user_fields =
    field (codes "email") may text_kind (λ u. option_cell text_cell u.email)
    ∷ field (codes "id") may text_kind (λ u. option_cell text_cell u.id)
    ∷ field (codes "ip_address") may ip_address_kind (λ u. option_cell ip_address_cell u.ip_address)
    ∷ field (codes "username") may text_kind (λ u. option_cell text_cell u.username)
    ∷ []

abbrev pub user_kind : Kind
user_kind = table (rows_of user_fields) (kept [])

abbrev pub user_cell : User → Cell
user_cell u = fields (cells_by user_fields u) (members_view u.other.entries)

pub user_in_order : in_order (keys (rows_of user_fields)) ≡ true
unfolding user_fields
user_in_order = refl
