-- The cells of a sequence, one by one.
use Rattle.sentry_tables.specs.Cell.{Cell, absent, sequence, Cells, no_cells, cell}

abbrev pub cells_of : Cell → Cells
cells_of (sequence cs) = cs
cells_of _ = no_cells

abbrev pub first : Cells → Cell
first no_cells = absent
first (cell c cs) = c

abbrev pub others : Cells → Cells
others no_cells = no_cells
others (cell c cs) = cs
