-- The tables of devices and graphics processors. Members of other keys are kept, but for the tag.
use Rattle.std.specs.Prelude.{◌≡◌, ◌^◌, List, [], ◌∷◌, codes, true, refl}
use Rattle.serde_json.specs.View.{members_view}
use Rattle.sentry_tables.specs.Cell.{Cell, truth, fields}
use Rattle.sentry_tables.specs.Fields.{Field, field, rows_of, cells_by}
use Rattle.sentry_tables.specs.Kind.{must, may, may_strict, Kind, table, keys}
use Rattle.sentry_tables.specs.Written.{in_order}
use Rattle.sentry_tables.specs.Cells.{text_cell, natural_cell, option_cell}
use Rattle.sentry_tables.specs.Kinds.{text_kind, truth_kind, unsigned_kind}
use Rattle.sentry_tables.specs.Spelling.{word_cell}
use Rattle.sentry_moments.specs.MomentForms.{rfc3339_kind}
use Rattle.sentry_moments.specs.Moments.{moment_cell}
use Rattle.sentry_words.specs.Orientation.{orientation_kind, orientation_word}
use Rattle.sentry_rows.specs.Cased.{but_tag}
use Rattle.sentry_contexts.specs.declared.device.DeviceContext.{DeviceContext}
use Rattle.sentry_contexts.specs.declared.gpu.GpuContext.{GpuContext}

-- ---- a device

unfoldable pub device_fields : List (Field DeviceContext)
device_fields =
    field (codes "arch") may text_kind (λ d. option_cell text_cell d.arch)
    ∷ field (codes "battery_level") may (unsigned_kind (2 ^ 32)) (λ d. option_cell natural_cell d.battery_level)
    ∷ field (codes "boot_time") may_strict rfc3339_kind (λ d. option_cell moment_cell d.boot_time)
    ∷ field (codes "external_free_storage") may (unsigned_kind (2 ^ 64)) (λ d. option_cell natural_cell d.external_free_storage)
    ∷ field (codes "external_storage_size") may (unsigned_kind (2 ^ 64)) (λ d. option_cell natural_cell d.external_storage_size)
    ∷ field (codes "family") may text_kind (λ d. option_cell text_cell d.family)
    ∷ field (codes "free_memory") may (unsigned_kind (2 ^ 64)) (λ d. option_cell natural_cell d.free_memory)
    ∷ field (codes "free_storage") may (unsigned_kind (2 ^ 64)) (λ d. option_cell natural_cell d.free_storage)
    ∷ field (codes "memory_size") may (unsigned_kind (2 ^ 64)) (λ d. option_cell natural_cell d.memory_size)
    ∷ field (codes "model") may text_kind (λ d. option_cell text_cell d.model)
    ∷ field (codes "model_id") may text_kind (λ d. option_cell text_cell d.model_id)
    ∷ field (codes "name") may text_kind (λ d. option_cell text_cell d.name)
    ∷ field (codes "orientation") may orientation_kind (λ d. option_cell (word_cell orientation_word) d.orientation)
    ∷ field (codes "simulator") may truth_kind (λ d. option_cell truth d.simulator)
    ∷ field (codes "storage_size") may (unsigned_kind (2 ^ 64)) (λ d. option_cell natural_cell d.storage_size)
    ∷ field (codes "timezone") may text_kind (λ d. option_cell text_cell d.timezone)
    ∷ field (codes "usable_memory") may (unsigned_kind (2 ^ 64)) (λ d. option_cell natural_cell d.usable_memory)
    ∷ []

abbrev pub device_kind : Kind
device_kind = table (rows_of device_fields) but_tag

abbrev pub device_cell : DeviceContext → Cell
device_cell d = fields (cells_by device_fields d) (members_view d.other.entries)

pub device_in_order : in_order (keys (rows_of device_fields)) ≡ true
unfolding device_fields
device_in_order = refl

-- ---- a graphics processor

unfoldable pub gpu_fields : List (Field GpuContext)
gpu_fields =
    field (codes "api_type") may text_kind (λ g. option_cell text_cell g.api_type)
    ∷ field (codes "driver_version") may text_kind (λ g. option_cell text_cell g.driver_version)
    ∷ field (codes "graphics_shader_level") may text_kind (λ g. option_cell text_cell g.graphics_shader_level)
    ∷ field (codes "id") may text_kind (λ g. option_cell text_cell g.id)
    ∷ field (codes "max_texture_size") may (unsigned_kind (2 ^ 32)) (λ g. option_cell natural_cell g.max_texture_size)
    ∷ field (codes "memory_size") may (unsigned_kind (2 ^ 32)) (λ g. option_cell natural_cell g.memory_size)
    ∷ field (codes "multi_threaded_rendering") may truth_kind (λ g. option_cell truth g.multi_threaded_rendering)
    ∷ field (codes "name") must text_kind (λ g. text_cell g.name)
    ∷ field (codes "npot_support") may truth_kind (λ g. option_cell truth g.npot_support)
    ∷ field (codes "supports_compute_shaders") may truth_kind (λ g. option_cell truth g.supports_compute_shaders)
    ∷ field (codes "supports_draw_call_instancing") may truth_kind (λ g. option_cell truth g.supports_draw_call_instancing)
    ∷ field (codes "supports_geometry_shaders") may truth_kind (λ g. option_cell truth g.supports_geometry_shaders)
    ∷ field (codes "supports_ray_tracing") may truth_kind (λ g. option_cell truth g.supports_ray_tracing)
    ∷ field (codes "vendor_id") may text_kind (λ g. option_cell text_cell g.vendor_id)
    ∷ field (codes "vendor_name") may text_kind (λ g. option_cell text_cell g.vendor_name)
    ∷ field (codes "version") may text_kind (λ g. option_cell text_cell g.version)
    ∷ []

abbrev pub gpu_kind : Kind
gpu_kind = table (rows_of gpu_fields) but_tag

abbrev pub gpu_cell : GpuContext → Cell
gpu_cell g = fields (cells_by gpu_fields g) (members_view g.other.entries)

pub gpu_in_order : in_order (keys (rows_of gpu_fields)) ≡ true
unfolding gpu_fields
gpu_in_order = refl
