-- The tables of frames, stack traces and places in templates. Members of other keys are ignored.
use Rattle.std.specs.Prelude.{◌≡◌, ◌^◌, List, [], ◌∷◌, codes, true, refl}
use Rattle.sentry_tables.specs.Cell.{Cell, truth}
use Rattle.sentry_tables.specs.Fields.{Field, field, rows_of, table_of, fields_by}
use Rattle.sentry_tables.specs.Kind.{may, default, always, Kind, list, map, keys}
use Rattle.sentry_tables.specs.Written.{in_order}
use Rattle.sentry_tables.specs.Cells.{text_cell, natural_cell, tree_cell, pair_cell, option_cell, list_cell, map_cell, empty_list, empty_map}
use Rattle.sentry_tables.specs.Kinds.{text_kind, truth_kind, unsigned_kind, pair_kind, any_kind}
use Rattle.sentry_text.specs.AddressTree.{address_kind}
use Rattle.sentry_frames.specs.declared.frame.Frame.{Frame}
use Rattle.sentry_frames.specs.declared.template_info.TemplateInfo.{TemplateInfo}
use Rattle.sentry_frames.specs.declared.stacktrace.Stacktrace.{Stacktrace}

-- ---- a frame

unfoldable pub frame_fields : List (Field Frame)
frame_fields =
    field (codes "abs_path") may text_kind (λ f. option_cell text_cell f.abs_path)
    ∷ field (codes "addr_mode") may text_kind (λ f. option_cell text_cell f.addr_mode)
    ∷ field (codes "colno") may (unsigned_kind (2 ^ 64)) (λ f. option_cell natural_cell f.colno)
    ∷ field (codes "context_line") may text_kind (λ f. option_cell text_cell f.context_line)
    ∷ field (codes "filename") may text_kind (λ f. option_cell text_cell f.filename)
    ∷ field (codes "function") may text_kind (λ f. option_cell text_cell f.function)
    ∷ field (codes "image_addr") may address_kind (λ f. option_cell (λ a. natural_cell a.0) f.image_addr)
    ∷ field (codes "in_app") may truth_kind (λ f. option_cell truth f.in_app)
    ∷ field (codes "instruction_addr") may address_kind (λ f. option_cell (λ a. natural_cell a.0) f.instruction_addr)
    ∷ field (codes "lineno") may (unsigned_kind (2 ^ 64)) (λ f. option_cell natural_cell f.lineno)
    ∷ field (codes "module") may text_kind (λ f. option_cell text_cell f.module)
    ∷ field (codes "package") may text_kind (λ f. option_cell text_cell f.package)
    ∷ field (codes "post_context") (default empty_list) (list text_kind) (λ f. list_cell text_cell f.post_context.items)
    ∷ field (codes "pre_context") (default empty_list) (list text_kind) (λ f. list_cell text_cell f.pre_context.items)
    ∷ field (codes "symbol") may text_kind (λ f. option_cell text_cell f.symbol)
    ∷ field (codes "symbol_addr") may address_kind (λ f. option_cell (λ a. natural_cell a.0) f.symbol_addr)
    ∷ field (codes "vars") (default empty_map) (map any_kind) (λ f. map_cell tree_cell f.vars.entries)
    ∷ []

abbrev pub frame_kind : Kind
frame_kind = table_of frame_fields

abbrev pub frame_cell : Frame → Cell
frame_cell f = fields_by frame_fields f

pub frame_in_order : in_order (keys (rows_of frame_fields)) ≡ true
unfolding frame_fields
frame_in_order = refl

-- ---- a place in a template

unfoldable pub template_fields : List (Field TemplateInfo)
template_fields =
    field (codes "abs_path") may text_kind (λ t. option_cell text_cell t.abs_path)
    ∷ field (codes "colno") may (unsigned_kind (2 ^ 64)) (λ t. option_cell natural_cell t.colno)
    ∷ field (codes "context_line") may text_kind (λ t. option_cell text_cell t.context_line)
    ∷ field (codes "filename") may text_kind (λ t. option_cell text_cell t.filename)
    ∷ field (codes "lineno") may (unsigned_kind (2 ^ 64)) (λ t. option_cell natural_cell t.lineno)
    ∷ field (codes "post_context") (default empty_list) (list text_kind) (λ t. list_cell text_cell t.post_context.items)
    ∷ field (codes "pre_context") (default empty_list) (list text_kind) (λ t. list_cell text_cell t.pre_context.items)
    ∷ []

abbrev pub template_kind : Kind
template_kind = table_of template_fields

abbrev pub template_cell : TemplateInfo → Cell
template_cell t = fields_by template_fields t

pub template_in_order : in_order (keys (rows_of template_fields)) ≡ true
unfolding template_fields
template_in_order = refl

-- ---- a stack trace

unfoldable pub stacktrace_fields : List (Field Stacktrace)
stacktrace_fields =
    field (codes "frames") (always empty_list) (list frame_kind) (λ s. list_cell frame_cell s.frames.items)
    ∷ field (codes "frames_omitted") may pair_kind (λ s. option_cell pair_cell s.frames_omitted)
    ∷ field (codes "registers") (default empty_map) (map address_kind) (λ s. map_cell (λ a. natural_cell a.0) s.registers.entries)
    ∷ []

abbrev pub stacktrace_kind : Kind
stacktrace_kind = table_of stacktrace_fields

abbrev pub stacktrace_cell : Stacktrace → Cell
stacktrace_cell s = fields_by stacktrace_fields s

pub stacktrace_in_order : in_order (keys (rows_of stacktrace_fields)) ≡ true
unfolding stacktrace_fields
stacktrace_in_order = refl
