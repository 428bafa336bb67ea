-- A table without rows.
use Rattle.std.specs.Prelude.{◌≡◌, List, [], true, refl}
use Rattle.sentry_tables.specs.Fields.{Field, rows_of}
use Rattle.sentry_tables.specs.Kind.{keys}
use Rattle.sentry_tables.specs.Written.{in_order}
use Rattle.sentry_rows.specs.declared.taken.NoRows.{NoRows}

abbrev pub no_lines : List (Field NoRows)
no_lines = []

pub no_lines_in_order : in_order (keys (rows_of no_lines)) ≡ true
no_lines_in_order = refl
