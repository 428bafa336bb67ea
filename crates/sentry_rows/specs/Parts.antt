-- One row of a value, by its key.
use Rattle.std.specs.Prelude.{ℕ, List, [], ◌∷◌, bytes_eq, if◌then◌else◌}
use Rattle.sentry_tables.specs.Cell.{Cell, absent}
use Rattle.sentry_tables.specs.Fields.{Field}

-- what the row of the key holds
abbrev pub part_at : {A : Type 0} → List ℕ → List (Field A) → A → Cell
part_at k [] v = absent
part_at k (f ∷ fs) v = if bytes_eq k f.key then f.part v else part_at k fs v
