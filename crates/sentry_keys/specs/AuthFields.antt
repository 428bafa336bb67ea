-- An authentication as JSON: four rows, and beside them the moment, which stands in no tree.
use Rattle.std.specs.Prelude.{◌≡◌, ◌^◌, List, [], ◌∷◌, Option, codes, false, true, refl}
use Rattle.sentry_moments.specs.declared.moment.Moment.{Moment}
use Rattle.sentry_tables.specs.Cell.{Cell, absent, moment, sequence, no_cells, cell}
use Rattle.sentry_tables.specs.Kind.{Scalar, Kind, scalar, must, may_null, keys}
use Rattle.sentry_tables.specs.Fields.{Field, field, rows_of, table_of, fields_by}
use Rattle.sentry_tables.specs.Lawful.{IsMoment}
use Rattle.sentry_tables.specs.Meets.{IsPlain, IsReadable, IsStored, IsOptional}
use Rattle.sentry_tables.specs.Norm.{norm}
use Rattle.sentry_tables.specs.Shows.{Shows}
use Rattle.sentry_tables.specs.Written.{tree, in_order}
use Rattle.sentry_tables.specs.Cells.{text_cell, natural_cell, option_cell}
use Rattle.sentry_tables.specs.Kinds.{text_kind, unsigned_kind}
use Rattle.sentry_keys.specs.declared.auth.Auth.{Auth}

abbrev pub auth_fields : List (Field Auth)
auth_fields =
    field (codes "sentry_client") may_null text_kind (λ a. option_cell text_cell a.client)
    ∷ field (codes "sentry_key") must text_kind (λ a. text_cell a.key)
    ∷ field (codes "sentry_secret") may_null text_kind (λ a. option_cell text_cell a.secret)
    ∷ field (codes "sentry_version") must (unsigned_kind (2 ^ 16)) (λ a. natural_cell a.version) ∷ []

-- members of other keys are ignored
unfoldable pub auth_table : Kind
auth_table = table_of auth_fields

pub auth_in_order : in_order (keys (rows_of auth_fields)) ≡ true
auth_in_order = refl

abbrev pub rows_cell : Auth → Cell
rows_cell a = fields_by auth_fields a

abbrev pub time_cell : Option Moment → Cell
time_cell time = option_cell (λ m. moment m.secs m.nanos) time

-- the moment, and the rows
abbrev pub beside : Cell → Cell → Cell
beside time rows = sequence (cell time (cell rows no_cells))

abbrev pub auth_cell : Auth → Cell
auth_cell a = beside (time_cell a.timestamp) (rows_cell a)

abbrev pub IsBeside : (Cell → Cell → Type 0) → Cell → Type 0
IsBeside P (sequence (cell time (cell rows no_cells))) = P time rows
IsBeside P _ = ⊥

abbrev pub rows_part : Cell → Cell
rows_part (sequence (cell time (cell rows no_cells))) = rows
rows_part _ = absent

-- no row looks at the moment of reading
abbrev pub epoch : Cell
epoch = moment 0 0

-- A tree shows the rows and no moment, and the normal form has none.
abbrev pub auth_scalar : Scalar
auth_scalar = record {
  shows = λ d c. IsBeside (λ time rows. (time ≡ absent) × Shows auth_table epoch d rows) c;
  tree = λ c. tree auth_table (rows_part c);
  norm = λ c. beside absent (norm auth_table (rows_part c));
  is_null = λ c. false;
  stored = λ c. IsBeside (λ time rows. IsOptional IsMoment time × IsStored auth_table rows) c;
  plain = λ c. IsBeside (λ time rows. IsPlain auth_table rows) c;
  readable = λ c. IsBeside (λ time rows. IsReadable auth_table rows) c;
}

unfoldable pub auth_kind : Kind
auth_kind = scalar auth_scalar
