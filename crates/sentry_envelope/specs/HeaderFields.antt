-- The fields of an envelope's header.
use Rattle.std.specs.Prelude.{ℕ, List, [], ◌∷◌, Option, Some, None, codes, true, bytes_eq, if◌then◌else◌, refl, ◌≡◌}
use Rattle.serde_json.specs.Data.{no_members}
use Rattle.sentry_tables.specs.Cell.{Cell, Cells, absent, present, octets, fields, no_cells, cell}
use Rattle.sentry_tables.specs.Kind.{Kind, may, may_strict, keys}
use Rattle.sentry_tables.specs.Written.{in_order}
use Rattle.sentry_tables.specs.Fields.{Field, field, rows_of, table_of, fields_by}
use Rattle.sentry_tables.specs.Cells.{option_cell}
use Rattle.sentry_identifiers.specs.Uuids.{hyphenated_kind}
use Rattle.sentry_keys.specs.DsnTree.{dsn_kind, dsn_cell}
use Rattle.sentry_moments.specs.MomentForms.{rfc3339_kind}
use Rattle.sentry_moments.specs.Moments.{moment_cell}
use Rattle.sentry_parts.specs.ClientSdk.{sdk_kind, sdk_cell}
use Rattle.sentry_records.specs.Sampling.{sampling_kind, sampling_cell}
use Rattle.sentry_envelope.specs.declared.headers.EnvelopeHeaders.{EnvelopeHeaders}
use Rattle.uuid.specs.declared.Uuid.{Uuid}

abbrev pub id_cell : Option Uuid → Cell
id_cell id = option_cell octets id

-- members of other keys are ignored
unfoldable pub header_fields : List (Field EnvelopeHeaders)
header_fields =
    field (codes "dsn") may dsn_kind (λ h. option_cell dsn_cell h.dsn)
    ∷ field (codes "event_id") may hyphenated_kind (λ h. id_cell h.event_id)
    ∷ field (codes "sdk") may sdk_kind (λ h. option_cell sdk_cell h.sdk)
    ∷ field (codes "sent_at") may_strict rfc3339_kind (λ h. option_cell moment_cell h.sent_at)
    ∷ field (codes "trace") may sampling_kind (λ h. option_cell sampling_cell h.trace)
    ∷ []

abbrev pub header_kind : Kind
header_kind = table_of header_fields

abbrev pub headers_cell : EnvelopeHeaders → Cell
headers_cell h = fields_by header_fields h

pub header_in_order : in_order (keys (rows_of header_fields)) ≡ true
unfolding header_fields
header_in_order = refl

-- an id fills an event id that is absent
abbrev pub fill_id : Cell → Cell → Cell
fill_id (octets id) (fields (cell dsn (cell absent cs)) other) = fields (cell dsn (cell (present (octets id)) cs)) other
fill_id id h = h

-- the id that is given, if one is
abbrev pub given_id : Option Uuid → Cell
given_id None = absent
given_id (Some id) = octets id

-- the header with this event id, or without one
abbrev pub put_id : Option Uuid → Cell → Cell
put_id id (fields (cell dsn (cell c cs)) other) = fields (cell dsn (cell (id_cell id) cs)) other
put_id id h = h

-- the cells of these fields, but for that of the key
abbrev pub put_field : List (Field EnvelopeHeaders) → List ℕ → Cell → EnvelopeHeaders → Cells
put_field [] k c h = no_cells
put_field (f ∷ fs) k c h = cell (if bytes_eq k f.key then present c else f.part h) (put_field fs k c h)

-- the same header, but that the field of the key holds this value
abbrev pub with_field : List ℕ → Cell → EnvelopeHeaders → Cell
with_field k c h = fields (put_field header_fields k c h) no_members
