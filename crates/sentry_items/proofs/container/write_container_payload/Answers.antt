use Rattle.std.proofs.Common.{◌++◌, ◌∙◌, ap}
use Rattle.serde_json.specs.Written.{compact_text}
use Rattle.sentry_tables.specs.Written.{tree}
use Rattle.sentry_tables.specs.Writes.{written}
use Rattle.sentry_tables.proofs.Tokens.{text_written}
use Rattle.sentry_items.specs.Containers.{container_cell, container_type}
use Rattle.sentry_items.specs.View.{payload_kind}
use Rattle.sentry_items.proofs.container.write_container_payload.Goals as goal

pub returns-clause-ok : goal.returns-clause-ok
unfolding written
returns-clause-ok c = λ h.
    let d = tree (payload_kind (container_type c.args.container.now)) (container_cell c.args.container.now) in
    text_written d _ _ _ c.new-writer.ensures.tokens c.in_ok-write_container_tree.ensures c.into_inner.ensures.items h ∙ ap (λ b. b ++ compact_text d) (c.new-writer.ensures.before ∙ ap (λ v. v.items) c.replace.ensures.value)
