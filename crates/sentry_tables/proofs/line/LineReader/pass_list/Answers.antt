use Rattle.std.proofs.Common.{refl, sym, subst, rules}
use Rattle.sentry_tables.specs.Passed.{ListPassed}
use Rattle.sentry_tables.proofs.Passing.{list_line_passed}
use Rattle.sentry_tables.proofs.Texts.{some_found}
use Rattle.sentry_tables.proofs.line.LineReader.pass_list.Goals as goal

pub returns : goal.returns
returns g c =
    let taken = some_found _ c.in_ok-parse_list.field-0 c.in-Some.field-0 c.in_ok-parse_list.ensures c.in-Some.is in
    let passed = list_line_passed (λ v. v.count) (λ v. v.out.ghost_name) (λ v. v.out.now) g.T.Member.kind c.args.key.now c.args.line.now _ c.parse_list.new.visitor refl taken in
    let named = passed.0 in
    let wrote : ListPassed g.T.Member.kind c.args.key.now c.args.line.now c.parse_list.new.visitor.count c.args.out.now c.leave.new._sink = subst (λ end. ListPassed g.T.Member.kind c.args.key.now c.args.line.now c.parse_list.new.visitor.count c.args.out.now end) (sym c.leave.ensures) passed.1 in
    search rules
