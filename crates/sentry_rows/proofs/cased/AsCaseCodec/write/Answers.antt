use Rattle.std.proofs.Common.{rules, OnOk, sym, subst}
use Rattle.sentry_tables.specs.Kind.{tagged}
use Rattle.sentry_tables.specs.Writes.{written, WritesTree}
use Rattle.sentry_rows.proofs.CasesGiven.{text_wrote}
use Rattle.sentry_rows.proofs.cased.AsCaseCodec.write.Goals as goal

pub returns : goal.returns
returns g c =
    let p = text_wrote _ _ _ _ g.T.Cased.cases _ c.give.ensures in
    let name = p.0 in
    let q : OnOk c.give.new.to.wrote (WritesTree (written (tagged g.T.Cased.cases) (g.T.Cased.choice_of c.args.value.now)) c.args.out.now c.leave.new._sink) =
    subst (λ s. OnOk c.give.new.to.wrote (WritesTree (written (tagged g.T.Cased.cases) (g.T.Cased.choice_of c.args.value.now)) c.args.out.now s)) (sym c.leave.ensures) p.1 in
    search rules
