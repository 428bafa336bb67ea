use Rattle.std.proofs.Common.{◌≡◌, None, rules, sym, subst}
use Rattle.sentry_tables.specs.Fields.{rows_of}
use Rattle.sentry_rows.specs.Fields.{read_of}
use Rattle.sentry_rows.specs.Passed.{RowsPassed}
use Rattle.sentry_rows.proofs.Passing.{text_passed, text_failed}
use Rattle.sentry_rows.proofs.pass.pass_rows.Goals as goal

pub returns-in-None : goal.returns-in-None
returns-in-None g c =
    let data_of = g.N.Node.data_of in
    let d = read_of data_of c.args.from in
    let p = text_passed data_of g.T.Table.lines c.read.result _ c.read.new.from c.requires c.read.ensures c.in-None.is in
    let name = p.0 in
    let q : RowsPassed (rows_of g.T.Table.lines) d c.args.out.now c.leave.new._sink = subst (λ s. RowsPassed (rows_of g.T.Table.lines) d c.args.out.now s) (sym c.leave.ensures) p.1 in
    search rules

pub returns : goal.returns
returns g c = text_failed g.N.Node.data_of g.T.Table.lines c.read.result _ c.read.new.from c.requires c.read.ensures c.in-Some.error c.in-Some.is
