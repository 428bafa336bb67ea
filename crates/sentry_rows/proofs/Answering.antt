-- From the rows of a table to the table.
use Rattle.std.proofs.Common.{◌≡◌, ℕ, List, sym, ◌∙◌, true, false, true≢false}
use Rattle.std.specs.Prelude.{is_some}
use Rattle.serde_json.specs.Data.{Data, Members}
use Rattle.serde_json.specs.Find.{as_object}
use Rattle.sentry_tables.specs.Cell.{Cell, fields, Cells, no_cells, cell}
use Rattle.sentry_tables.specs.Kind.{Rule, Kind, table, Rows, no_rows, row, Other, keys, others}
use Rattle.sentry_tables.specs.Shows.{RowsShow, members_in}
use Rattle.sentry_tables.specs.Reading.{Refused, RowRefused, RowShown, ShownAt, RefusedAt, RowRefusedAt, RowShownAt, Only}
use Rattle.sentry_tables.specs.declared.error.TreeError.{TreeError}
use Rattle.sentry_tables.specs.declared.error.TreeError.TheVariants.{Misfit, Memory}

pub refused_now : (now : Cell) (key : List ℕ) (r : Rule) (K : Kind) (d : Data) → RowRefused key r K d → RowRefusedAt now key r K d
unfolding RowRefusedAt RowRefused
refused_now now key r K d h = h now

not_object : (rows : Rows) (o : Other) (d : Data) → is_some (as_object d) ≡ false → Refused (table rows o) d
unfolding Refused
not_object rows o d is now c h = absurd (true≢false (sym h.0 ∙ is))

pub no_object_fails : (rows : Rows) (o : Other) (d : Data) (e : TreeError) → Only e (is_some (as_object d) ≡ false) → Only e (Refused (table rows o) d)
no_object_fails rows o d Misfit is = not_object rows o d is
no_object_fails rows o d Memory is = tt

not_object_at : (now : Cell) (rows : Rows) (o : Other) (d : Data) → is_some (as_object d) ≡ false → RefusedAt now (table rows o) d
unfolding RefusedAt
not_object_at now rows o d is c h = absurd (true≢false (sym h.0 ∙ is))

pub no_object_fails_at : (now : Cell) (rows : Rows) (o : Other) (d : Data) (e : TreeError) → Only e (is_some (as_object d) ≡ false) → Only e (RefusedAt now (table rows o) d)
no_object_fails_at now rows o d Misfit is = not_object_at now rows o d is
no_object_fails_at now rows o d Memory is = tt

-- ---- what is shown

abbrev pub RowsShownAt : Cell → Rows → Data → Cells → Type 0
RowsShownAt now no_rows d no_cells = Unit {0}
RowsShownAt now no_rows d (cell c cs) = ⊥
RowsShownAt now (row key r K rows) d no_cells = ⊥
RowsShownAt now (row key r K rows) d (cell c cs) = RowShownAt now key r K d c × RowsShownAt now rows d cs

pub shown_now : (now : Cell) (key : List ℕ) (r : Rule) (K : Kind) (d : Data) (c : Cell) → RowShown key r K d c → RowShownAt now key r K d c
unfolding RowShownAt RowShown
shown_now now key r K d c h = h now

rows_show_at : (now : Cell) (rows : Rows) (d : Data) (cs : Cells) → RowsShownAt now rows d cs → RowsShow rows now d cs
unfolding RowShownAt
rows_show_at now no_rows d no_cells h = tt
rows_show_at now no_rows d (cell c cs) h = absurd h
rows_show_at now (row key r K rows) d no_cells h = absurd h
rows_show_at now (row key r K rows) d (cell c cs) h = (h.0, rows_show_at now rows d cs h.1)

pub shows_table_at : (now : Cell) (rows : Rows) (o : Other) (d : Data) (cs : Cells) (other : Members) → is_some (as_object d) ≡ true → other ≡ others o (keys rows) (members_in d) → RowsShownAt now rows d cs → ShownAt now (table rows o) d (fields cs other)
unfolding ShownAt
shows_table_at now rows o d cs other is rest h = (is, (rows_show_at now rows d cs h, rest))
