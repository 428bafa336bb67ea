use Rattle.std.proofs.Common.{OnOk, subst}
use Rattle.sentry_tables.specs.Writes.{WritesTree}
use Rattle.sentry_writing.proofs.OfTables.{case_text}
use Rattle.sentry_writing.proofs.table.write_case.Goals as goal

pub returns : goal.returns
returns g c = subst (λ t. OnOk c.write_rows.result (WritesTree t c.args.out.now c.write_rows.new.out)) (case_text g.T.Table.lines c.args.value.now g.met.T.Table.ordered c.args.word.now _ _ c.new.ensures) c.write_rows.ensures
