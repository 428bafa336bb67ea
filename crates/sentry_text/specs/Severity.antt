-- How severe a log is, as a number.
use Rattle.std.specs.Prelude.{ℕ, ◌≤◌, ◌&&◌, nat_le, pos, Option, Some, None, option_and_then, cond}
use Rattle.serde_json.specs.Find.{as_number, as_u64}
use Rattle.sentry_tables.specs.Cell.{Cell, whole}
use Rattle.sentry_tables.specs.Kind.{Scalar, Kind, scalar}
use Rattle.sentry_tables.specs.Basic.{read_by, whole_tree}

abbrev pub IsSeverity : ℕ → Type 0
IsSeverity n = (1 ≤ n) × (n ≤ 24)

abbrev pub IsSeverityCell : Cell → Type 0
IsSeverityCell (whole (pos n)) = IsSeverity n
IsSeverityCell _ = ⊥

abbrev pub severity_at : ℕ → Option Cell
severity_at n = cond (nat_le 1 n && nat_le n 24) (Some (whole (pos n))) None

-- a whole number from 1 to 24
abbrev pub severity_scalar : Scalar
severity_scalar = read_by (λ d. option_and_then severity_at (option_and_then as_u64 (as_number d))) whole_tree IsSeverityCell

abbrev pub severity_kind : Kind
severity_kind = scalar severity_scalar
