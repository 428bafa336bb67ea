-- The tables of what exceptions come from. Members of other keys are ignored.
use Rattle.std.specs.Prelude.{◌≡◌, List, [], ◌∷◌, codes, true, refl}
use Rattle.serde_json.specs.Data.{no_members}
use Rattle.sentry_tables.specs.Cell.{Cell, absent, truth, fields, no_cells, cell}
use Rattle.sentry_tables.specs.Fields.{Field, field, rows_of, table_of, fields_by}
use Rattle.sentry_tables.specs.Kind.{must, may, default, Kind, map, keys}
use Rattle.sentry_tables.specs.Written.{in_order}
use Rattle.sentry_tables.specs.Cells.{text_cell, tree_cell, option_cell, map_cell, empty_map}
use Rattle.sentry_tables.specs.Kinds.{text_kind, truth_kind, any_kind}
use Rattle.sentry_text.specs.UrlTree.{url_cell, url_kind}
use Rattle.sentry_frames.specs.Causes.{c_error_cell, c_error_kind, mach_cell, mach_kind, signal_cell, signal_kind}
use Rattle.sentry_frames.specs.declared.mechanism_meta.MechanismMeta.{MechanismMeta}
use Rattle.sentry_frames.specs.declared.mechanism.Mechanism.{Mechanism}

-- ---- what is told of a cause

unfoldable pub mechanism_meta_fields : List (Field MechanismMeta)
mechanism_meta_fields =
    field (codes "errno") may c_error_kind (λ m. option_cell c_error_cell m.errno)
    ∷ field (codes "mach_exception") may mach_kind (λ m. option_cell mach_cell m.mach_exception)
    ∷ field (codes "signal") may signal_kind (λ m. option_cell signal_cell m.signal)
    ∷ []

abbrev pub mechanism_meta_kind : Kind
mechanism_meta_kind = table_of mechanism_meta_fields

abbrev pub mechanism_meta_cell : MechanismMeta → Cell
mechanism_meta_cell m = fields_by mechanism_meta_fields m

pub meta_in_order : in_order (keys (rows_of mechanism_meta_fields)) ≡ true
unfolding mechanism_meta_fields
meta_in_order = refl

-- nothing is told
abbrev pub no_meta : Cell
no_meta = fields (cell absent (cell absent (cell absent no_cells))) no_members

-- ---- a mechanism

unfoldable pub mechanism_fields : List (Field Mechanism)
mechanism_fields =
    field (codes "data") (default empty_map) (map any_kind) (λ m. map_cell tree_cell m.data_.entries)
    ∷ field (codes "description") may text_kind (λ m. option_cell text_cell m.description)
    ∷ field (codes "handled") may truth_kind (λ m. option_cell truth m.handled)
    ∷ field (codes "help_link") may url_kind (λ m. option_cell url_cell m.help_link)
    ∷ field (codes "meta") (default no_meta) mechanism_meta_kind (λ m. mechanism_meta_cell m.meta)
    ∷ field (codes "synthetic") may truth_kind (λ m. option_cell truth m.synthetic)
    ∷ field (codes "type") must text_kind (λ m. text_cell m.ty)
    ∷ []

abbrev pub mechanism_kind : Kind
mechanism_kind = table_of mechanism_fields

abbrev pub mechanism_cell : Mechanism → Cell
mechanism_cell m = fields_by mechanism_fields m

pub mechanism_in_order : in_order (keys (rows_of mechanism_fields)) ≡ true
unfolding mechanism_fields
mechanism_in_order = refl
