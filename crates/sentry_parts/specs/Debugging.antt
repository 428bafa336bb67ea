-- The tables of what debuggers need, and of the system's software. Members of other keys are ignored.
use Rattle.std.specs.Prelude.{◌≡◌, ◌^◌, List, [], ◌∷◌, codes, true, refl}
use Rattle.serde_json.specs.Data.{no_members}
use Rattle.sentry_tables.specs.Cell.{Cell, absent, fields, no_cells, cell}
use Rattle.sentry_tables.specs.Fields.{Field, field, rows_of, table_of, fields_by}
use Rattle.sentry_tables.specs.Kind.{must, may, default, Kind, list, keys}
use Rattle.sentry_tables.specs.Written.{in_order}
use Rattle.sentry_tables.specs.Cells.{text_cell, natural_cell, option_cell, list_cell, empty_list}
use Rattle.sentry_tables.specs.Kinds.{text_kind, unsigned_kind}
use Rattle.sentry_parts.specs.DebugImages.{image_cell, image_kind}
use Rattle.sentry_parts.specs.declared.debug_meta.DebugMeta.{DebugMeta}
use Rattle.sentry_parts.specs.declared.system_sdk_info.SystemSdkInfo.{SystemSdkInfo}

-- ---- the system's software

unfoldable pub system_fields : List (Field SystemSdkInfo)
system_fields =
    field (codes "sdk_name") must text_kind (λ s. text_cell s.sdk_name)
    ∷ field (codes "version_major") must (unsigned_kind (2 ^ 32)) (λ s. natural_cell s.version_major)
    ∷ field (codes "version_minor") must (unsigned_kind (2 ^ 32)) (λ s. natural_cell s.version_minor)
    ∷ field (codes "version_patchlevel") must (unsigned_kind (2 ^ 32)) (λ s. natural_cell s.version_patchlevel)
    ∷ []

abbrev pub system_kind : Kind
system_kind = table_of system_fields

abbrev pub system_cell : SystemSdkInfo → Cell
system_cell s = fields_by system_fields s

pub system_in_order : in_order (keys (rows_of system_fields)) ≡ true
unfolding system_fields
system_in_order = refl

-- ---- what debuggers need

unfoldable pub debug_meta_fields : List (Field DebugMeta)
debug_meta_fields =
    field (codes "images") (default empty_list) (list image_kind) (λ m. list_cell image_cell m.images.items)
    ∷ field (codes "sdk_info") may system_kind (λ m. option_cell system_cell m.sdk_info)
    ∷ []

abbrev pub debug_meta_kind : Kind
debug_meta_kind = table_of debug_meta_fields

abbrev pub debug_meta_cell : DebugMeta → Cell
debug_meta_cell m = fields_by debug_meta_fields m

pub debug_meta_in_order : in_order (keys (rows_of debug_meta_fields)) ≡ true
unfolding debug_meta_fields
debug_meta_in_order = refl

-- no images, and nothing of the system's software
abbrev pub empty_meta : Cell
empty_meta = fields (cell empty_list (cell absent no_cells)) no_members
