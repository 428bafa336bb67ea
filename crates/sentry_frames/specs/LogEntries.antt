-- The table of messages with parameters. Members of other keys are ignored.
use Rattle.std.specs.Prelude.{◌≡◌, List, [], ◌∷◌, codes, true, refl}
use Rattle.sentry_tables.specs.Cell.{Cell}
use Rattle.sentry_tables.specs.Fields.{Field, field, rows_of, table_of, fields_by}
use Rattle.sentry_tables.specs.Kind.{must, default, Kind, list, keys}
use Rattle.sentry_tables.specs.Written.{in_order}
use Rattle.sentry_tables.specs.Cells.{text_cell, tree_cell, list_cell, empty_list}
use Rattle.sentry_tables.specs.Kinds.{text_kind, any_kind}
use Rattle.sentry_frames.specs.declared.log_entry.LogEntry.{LogEntry}

unfoldable pub entry_fields : List (Field LogEntry)
entry_fields =
    field (codes "message") must text_kind (λ e. text_cell e.message)
    ∷ field (codes "params") (default empty_list) (list any_kind) (λ e. list_cell tree_cell e.params.items)
    ∷ []

abbrev pub entry_kind : Kind
entry_kind = table_of entry_fields

abbrev pub entry_cell : LogEntry → Cell
entry_cell e = fields_by entry_fields e

pub entry_in_order : in_order (keys (rows_of entry_fields)) ≡ true
unfolding entry_fields
entry_in_order = refl
