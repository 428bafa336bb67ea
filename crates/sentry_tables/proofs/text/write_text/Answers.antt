use Rattle.std.proofs.Common.{◌++◌, ◌∙◌, ap}
use Rattle.serde_json.specs.Written.{compact_text}
use Rattle.sentry_tables.specs.Writes.{written}
use Rattle.sentry_tables.proofs.Tokens.{text_written}
use Rattle.sentry_tables.proofs.text.write_text.Goals as goal

pub returns-clause-ok : goal.returns-clause-ok
returns-clause-ok g c = λ h.
    let text = compact_text (written g.T.Member.kind (g.T.Member.cell_of c.args.value.now)) in
    text_written _ _ _ _ c.new-writer.ensures.tokens c.in_ok-write.ensures c.into_inner.ensures.items h ∙ ap (λ b. b ++ text) (c.new-writer.ensures.before ∙ ap (λ v. v.items) c.replace.ensures.value)
