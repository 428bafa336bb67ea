use Rattle.std.proofs.Common.{subst}
use Rattle.sentry_tables.proofs.Texts.{line_shows, some_found}
use Rattle.sentry_tables.proofs.line.LineReader.read_apart.Goals as goal

pub returns-in-Ok : goal.returns-in-Ok
returns-in-Ok g c =
    let t = some_found _ c.in_ok-root.field-0 (c.in-Some.root, c.in-Some.members) c.in_ok-root.ensures c.in-Some.is in
    line_shows _ c.args.line.now t.0 t.1 (subst (λ d. g.R.ReadsNode.shown c.args.reader d c.in-Ok.value) t.2 c.in-Ok.ensures.ok, t.3)
