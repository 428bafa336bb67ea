use Rattle.std.proofs.Common.{rules}
use Rattle.sentry_tables.specs.Cells.{list_cell}
use Rattle.sentry_moments.specs.Moments.{moment_cell}
use Rattle.sentry_rows.proofs.Reading.{must_kept_at, missing_kept_at}
use Rattle.sentry_rows.proofs.reader.ReaderSource.required_list_at.Goals as goal

pub returns : goal.returns
returns g c = must_kept_at g.N.Node.data_of (moment_cell c.args.now) _ _ (λ v. list_cell g.X.Member.cell_of v.items) _ _ _ _ _ c.read_list_at-read.ensures (search rules) c.keep-2.ensures

pub returns-in_default : goal.returns-in_default
returns-in_default g c = missing_kept_at g.N.Node.data_of (moment_cell c.args.now) _ _ (λ v. list_cell g.X.Member.cell_of v.items) _ _ _ (search rules) c.keep.ensures
