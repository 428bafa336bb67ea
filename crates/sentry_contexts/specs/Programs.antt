-- The tables of applications and browsers. Members of other keys are kept, but for the tag.
use Rattle.std.specs.Prelude.{◌≡◌, List, [], ◌∷◌, codes, true, refl}
use Rattle.serde_json.specs.View.{members_view}
use Rattle.sentry_tables.specs.Cell.{Cell, fields}
use Rattle.sentry_tables.specs.Fields.{Field, field, rows_of, cells_by}
use Rattle.sentry_tables.specs.Kind.{may, may_strict, Kind, table, keys}
use Rattle.sentry_tables.specs.Written.{in_order}
use Rattle.sentry_tables.specs.Cells.{text_cell, option_cell}
use Rattle.sentry_tables.specs.Kinds.{text_kind}
use Rattle.sentry_moments.specs.MomentForms.{rfc3339_kind}
use Rattle.sentry_moments.specs.Moments.{moment_cell}
use Rattle.sentry_rows.specs.Cased.{but_tag}
use Rattle.sentry_contexts.specs.declared.app.AppContext.{AppContext}
use Rattle.sentry_contexts.specs.declared.browser.BrowserContext.{BrowserContext}

-- ---- an application

unfoldable pub app_fields : List (Field AppContext)
app_fields =
    field (codes "app_build") may text_kind (λ a. option_cell text_cell a.app_build)
    ∷ field (codes "app_identifier") may text_kind (λ a. option_cell text_cell a.app_identifier)
    ∷ field (codes "app_name") may text_kind (λ a. option_cell text_cell a.app_name)
    ∷ field (codes "app_start_time") may_strict rfc3339_kind (λ a. option_cell moment_cell a.app_start_time)
    ∷ field (codes "app_version") may text_kind (λ a. option_cell text_cell a.app_version)
    ∷ field (codes "build_type") may text_kind (λ a. option_cell text_cell a.build_type)
    ∷ field (codes "device_app_hash") may text_kind (λ a. option_cell text_cell a.device_app_hash)
    ∷ []

abbrev pub app_kind : Kind
app_kind = table (rows_of app_fields) but_tag

abbrev pub app_cell : AppContext → Cell
app_cell a = fields (cells_by app_fields a) (members_view a.other.entries)

pub app_in_order : in_order (keys (rows_of app_fields)) ≡ true
unfolding app_fields
app_in_order = refl

-- ---- a browser

unfoldable pub browser_fields : List (Field BrowserContext)
browser_fields =
    field (codes "name") may text_kind (λ b. option_cell text_cell b.name)
    ∷ field (codes "version") may text_kind (λ b. option_cell text_cell b.version)
    ∷ []

abbrev pub browser_kind : Kind
browser_kind = table (rows_of browser_fields) but_tag

abbrev pub browser_cell : BrowserContext → Cell
browser_cell b = fields (cells_by browser_fields b) (members_view b.other.entries)

pub browser_in_order : in_order (keys (rows_of browser_fields)) ≡ true
unfolding browser_fields
browser_in_order = refl
