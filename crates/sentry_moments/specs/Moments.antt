-- Moments as cells, and as time.
use Rattle.std.specs.Prelude.{ℕ, ◌+◌, ◌*◌, ◌^◌}
use Rattle.sentry_tables.specs.Cell.{Cell, moment}
use Rattle.sentry_moments.specs.declared.moment.Moment.{Moment}

abbrev pub moment_cell : Moment → Cell
moment_cell m = moment m.secs m.nanos

-- the nanoseconds from 1970-01-01T00:00:00Z to the moment
abbrev pub elapsed_nanoseconds : Moment → ℕ
elapsed_nanoseconds m = m.secs * 10 ^ 9 + m.nanos
