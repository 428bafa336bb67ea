use Rattle.std.proofs.Common.{rules, ◌≡◌, Some, sym, ap, subst, ◌∙◌}
use Rattle.std.specs.Prelude.{codes}
use Rattle.sentry_json.specs.TapeView.{node_data}
use Rattle.sentry_tables.specs.Reading.{TextShown}
use Rattle.sentry_tables.proofs.Texts.{some_found}
use Rattle.sentry_envelope.specs.HeaderFields.{header_kind, put_id}
use Rattle.sentry_envelope.proofs.HeadersFilled.{line_filled, none_filled}
use Rattle.sentry_envelope.proofs.headers.fill_headers.Goals as goal

pub returns-in-Some-clause-ok : goal.returns-in-Some-clause-ok
returns-in-Some-clause-ok c =
    subst (TextShown header_kind c.args.line.now) (sym (c.with_id.ensures ∙ ap (put_id (Some c.in-Some.id)) c.new-in-Some.ensures)) c.in-Some.ensures

pub returns-in-Some-2-clause-ok : goal.returns-in-Some-2-clause-ok
returns-in-Some-2-clause-ok c =
    let f = c.fill_from_root in
    let tree = some_found _ c.in_ok-root.field-0 c.in-Some-2.root c.in_ok-root.ensures c.in-Some-2.is in
    (line_filled c.args.line.now (node_data c.in-Some-2.root) f.new.headers f.result tree f.ensures.ok f.ensures.err).0

pub returns-in-Some-2-clause-err : goal.returns-in-Some-2-clause-err
returns-in-Some-2-clause-err c =
    let f = c.fill_from_root in
    let tree = some_found _ c.in_ok-root.field-0 c.in-Some-2.root c.in_ok-root.ensures c.in-Some-2.is in
    (line_filled c.args.line.now (node_data c.in-Some-2.root) f.new.headers f.result tree f.ensures.ok f.ensures.err).1

pub returns-then-eq-clause-ok : goal.returns-then-eq-clause-ok
returns-then-eq-clause-ok c =
    let is : c.args.line.now ≡ codes "{}" = search rules in
    none_filled c.args.line.now c.new.result is c.new.ensures
