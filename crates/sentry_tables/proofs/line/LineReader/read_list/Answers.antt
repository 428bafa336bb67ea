use Rattle.sentry_tables.proofs.Listed.{list_shown}
use Rattle.sentry_tables.proofs.Texts.{some_found}
use Rattle.sentry_tables.proofs.line.LineReader.read_list.Goals as goal

pub returns : goal.returns
returns g c =
    let taken = some_found _ c.in_ok-parse_list.field-0 c.in-Some.field-0 c.in_ok-parse_list.ensures c.in-Some.is in
    list_shown (λ visitor. visitor.values.items) g.T.Member.kind g.T.Member.cell_of c.args.key.now c.args.line.now _ c.parse_list.new.visitor c.new.ensures.items taken
