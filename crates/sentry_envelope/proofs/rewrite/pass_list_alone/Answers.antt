use Rattle.sentry_tables.proofs.Texts.{some_found}
use Rattle.sentry_envelope.proofs.Rewriting.{list_alone}
use Rattle.sentry_envelope.proofs.rewrite.pass_list_alone.Goals as goal

pub returns : goal.returns
returns g c =
    let passed = some_found _ c.in_ok-count.field-0 c.in-Some.count c.in_ok-count.ensures c.in-Some.is in
    list_alone g.T.Member.kind c.args.line.now c.in-Some.count c.in_ok-out.out c.begin_object.new.self c.key.new.self c.begin_array.new.self c.pass_list.new.out c.end_array.new.self c.end_object.new.self c.into_inner.result.items
    c.in_ok-out.ensures.before c.in_ok-out.ensures.tokens c.in_ok-begin_object.ensures c.in_ok-key.ensures c.in_ok-begin_array.ensures passed c.in_ok-end_array.ensures c.in_ok-end_object.ensures c.into_inner.ensures.items
