use Rattle.std.proofs.Common.{◌≡◌, None, rules, sym, subst}
use Rattle.sentry_tables.specs.Fields.{rows_of}
use Rattle.sentry_moments.specs.Moments.{moment_cell}
use Rattle.sentry_rows.specs.Fields.{read_of}
use Rattle.sentry_rows.specs.Passed.{RowsPassedAt}
use Rattle.sentry_rows.proofs.Passing.{text_passed_at, text_failed_at}
use Rattle.sentry_rows.proofs.pass.pass_rows_at.Goals as goal

pub returns-in-None : goal.returns-in-None
returns-in-None g c =
    let data_of = g.N.Node.data_of in
    let now = moment_cell c.args.now in
    let d = read_of data_of c.args.from in
    let p = text_passed_at data_of g.T.Table.lines c.read.result _ c.read.new.from c.requires now c.read.ensures c.in-None.is in
    let name = p.0 in
    let q : RowsPassedAt now (rows_of g.T.Table.lines) d c.args.out.now c.leave.new._sink = subst (λ s. RowsPassedAt now (rows_of g.T.Table.lines) d c.args.out.now s) (sym c.leave.ensures) p.1 in
    search rules

pub returns : goal.returns
returns g c = text_failed_at g.N.Node.data_of g.T.Table.lines c.read.result _ c.read.new.from c.requires (moment_cell c.args.now) c.read.ensures c.in-Some.error c.in-Some.is
