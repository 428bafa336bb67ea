use Rattle.std.proofs.Common.{◌++◌, ◌∙◌, ap}
use Rattle.serde_json.specs.Written.{compact_text}
use Rattle.sentry_tables.specs.Writes.{written}
use Rattle.sentry_tables.proofs.Tokens.{text_written, text_is_utf8}
use Rattle.sentry_tables.proofs.text.text_of.Goals as goal

pub returns-clause-text : goal.returns-clause-text
returns-clause-text g c = λ h.
    let text = compact_text (written g.T.Member.kind (g.T.Member.cell_of c.args.value.now)) in
    text_written _ _ _ _ c.new-out.ensures.tokens c.in_ok-write.ensures c.into_inner.ensures.items h ∙ ap (λ b. b ++ text) (c.new-out.ensures.before ∙ c.in_ok-with_capacity.ensures.items)

pub returns-clause-utf8 : goal.returns-clause-utf8
returns-clause-utf8 g c = text_is_utf8 _ _ _ _ (c.new-out.ensures.before ∙ c.in_ok-with_capacity.ensures.items) c.in_ok-write.ensures c.into_inner.ensures.items c.into_inner.ensures.utf8
