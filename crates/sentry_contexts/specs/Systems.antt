-- The tables of operating systems and runtimes. Members of other keys are kept, but for the tag.
use Rattle.std.specs.Prelude.{◌≡◌, List, [], ◌∷◌, codes, true, refl}
use Rattle.serde_json.specs.View.{members_view}
use Rattle.sentry_tables.specs.Cell.{Cell, truth, fields}
use Rattle.sentry_tables.specs.Fields.{Field, field, rows_of, cells_by}
use Rattle.sentry_tables.specs.Kind.{may, Kind, table, keys}
use Rattle.sentry_tables.specs.Written.{in_order}
use Rattle.sentry_tables.specs.Cells.{text_cell, option_cell}
use Rattle.sentry_tables.specs.Kinds.{text_kind, truth_kind}
use Rattle.sentry_rows.specs.Cased.{but_tag}
use Rattle.sentry_contexts.specs.declared.os.OsContext.{OsContext}
use Rattle.sentry_contexts.specs.declared.runtime.RuntimeContext.{RuntimeContext}

-- ---- an operating system

unfoldable pub os_fields : List (Field OsContext)
os_fields =
    field (codes "build") may text_kind (λ s. option_cell text_cell s.build)
    ∷ field (codes "kernel_version") may text_kind (λ s. option_cell text_cell s.kernel_version)
    ∷ field (codes "name") may text_kind (λ s. option_cell text_cell s.name)
    ∷ field (codes "rooted") may truth_kind (λ s. option_cell truth s.rooted)
    ∷ field (codes "version") may text_kind (λ s. option_cell text_cell s.version)
    ∷ []

abbrev pub os_kind : Kind
os_kind = table (rows_of os_fields) but_tag

abbrev pub os_cell : OsContext → Cell
os_cell s = fields (cells_by os_fields s) (members_view s.other.entries)

pub os_in_order : in_order (keys (rows_of os_fields)) ≡ true
unfolding os_fields
os_in_order = refl

-- ---- a runtime

unfoldable pub runtime_fields : List (Field RuntimeContext)
runtime_fields =
    field (codes "name") may text_kind (λ r. option_cell text_cell r.name)
    ∷ field (codes "version") may text_kind (λ r. option_cell text_cell r.version)
    ∷ []

abbrev pub runtime_kind : Kind
runtime_kind = table (rows_of runtime_fields) but_tag

abbrev pub runtime_cell : RuntimeContext → Cell
runtime_cell r = fields (cells_by runtime_fields r) (members_view r.other.entries)

pub runtime_in_order : in_order (keys (rows_of runtime_fields)) ≡ true
unfolding runtime_fields
runtime_in_order = refl
