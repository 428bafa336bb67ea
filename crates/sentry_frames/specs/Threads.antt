-- The table of threads. Members of other keys are ignored.
use Rattle.std.specs.Prelude.{◌≡◌, List, [], ◌∷◌, codes, true, false, refl}
use Rattle.sentry_tables.specs.Cell.{Cell, truth}
use Rattle.sentry_tables.specs.Fields.{Field, field, rows_of, table_of, fields_by}
use Rattle.sentry_tables.specs.Kind.{may, default, Kind, keys}
use Rattle.sentry_tables.specs.Written.{in_order}
use Rattle.sentry_tables.specs.Cells.{text_cell, option_cell}
use Rattle.sentry_tables.specs.Kinds.{text_kind, truth_kind}
use Rattle.sentry_frames.specs.Frames.{stacktrace_cell, stacktrace_kind}
use Rattle.sentry_frames.specs.ThreadIds.{thread_id_cell, thread_id_kind}
use Rattle.sentry_frames.specs.declared.thread.Thread.{Thread}

unfoldable pub thread_fields : List (Field Thread)
thread_fields =
    field (codes "crashed") (default (truth false)) truth_kind (λ t. truth t.crashed)
    ∷ field (codes "current") (default (truth false)) truth_kind (λ t. truth t.current)
    ∷ field (codes "id") may thread_id_kind (λ t. option_cell thread_id_cell t.id)
    ∷ field (codes "name") may text_kind (λ t. option_cell text_cell t.name)
    ∷ field (codes "raw_stacktrace") may stacktrace_kind (λ t. option_cell stacktrace_cell t.raw_stacktrace)
    ∷ field (codes "stacktrace") may stacktrace_kind (λ t. option_cell stacktrace_cell t.stacktrace)
    ∷ []

abbrev pub thread_kind : Kind
thread_kind = table_of thread_fields

abbrev pub thread_cell : Thread → Cell
thread_cell t = fields_by thread_fields t

pub thread_in_order : in_order (keys (rows_of thread_fields)) ≡ true
unfolding thread_fields
thread_in_order = refl
