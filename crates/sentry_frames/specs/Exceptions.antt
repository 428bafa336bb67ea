-- The table of exceptions. Members of other keys are ignored.
use Rattle.std.specs.Prelude.{◌≡◌, List, [], ◌∷◌, codes, true, refl}
use Rattle.sentry_tables.specs.Cell.{Cell}
use Rattle.sentry_tables.specs.Fields.{Field, field, rows_of, table_of, fields_by}
use Rattle.sentry_tables.specs.Kind.{must, may, Kind, keys}
use Rattle.sentry_tables.specs.Written.{in_order}
use Rattle.sentry_tables.specs.Cells.{text_cell, option_cell}
use Rattle.sentry_tables.specs.Kinds.{text_kind}
use Rattle.sentry_frames.specs.Frames.{stacktrace_cell, stacktrace_kind}
use Rattle.sentry_frames.specs.Mechanisms.{mechanism_cell, mechanism_kind}
use Rattle.sentry_frames.specs.ThreadIds.{thread_id_cell, thread_id_kind}
use Rattle.sentry_frames.specs.declared.exception.Exception.{Exception}

unfoldable pub exception_fields : List (Field Exception)
exception_fields =
    field (codes "mechanism") may mechanism_kind (λ e. option_cell mechanism_cell e.mechanism)
    ∷ field (codes "module") may text_kind (λ e. option_cell text_cell e.module)
    ∷ field (codes "raw_stacktrace") may stacktrace_kind (λ e. option_cell stacktrace_cell e.raw_stacktrace)
    ∷ field (codes "stacktrace") may stacktrace_kind (λ e. option_cell stacktrace_cell e.stacktrace)
    ∷ field (codes "thread_id") may thread_id_kind (λ e. option_cell thread_id_cell e.thread_id)
    ∷ field (codes "type") must text_kind (λ e. text_cell e.ty)
    ∷ field (codes "value") may text_kind (λ e. option_cell text_cell e.value)
    ∷ []

abbrev pub exception_kind : Kind
exception_kind = table_of exception_fields

abbrev pub exception_cell : Exception → Cell
exception_cell e = fields_by exception_fields e

pub exception_in_order : in_order (keys (rows_of exception_fields)) ≡ true
unfolding exception_fields
exception_in_order = refl
