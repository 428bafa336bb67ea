use Rattle.std.proofs.Common.{rules, sym, ◌∙◌, subst}
use Rattle.std.specs.Prelude.{IsUtf8}
use Rattle.sentry_records.specs.LogAttribute.{attribute_members}
use Rattle.sentry_records.proofs.Attributes.{compact_is, compact_utf8}
use Rattle.sentry_records.proofs.log_attribute.give_compact.Goals as goal

pub unreachable-requires : goal.unreachable-requires
unreachable-requires g c = c.in-Err.ensures.cases.0 (subst IsUtf8 (sym c.as_slice.ensures.value) (compact_utf8 _ _ (search rules) c.in_ok-text.ensures.utf8))

pub returns-clause-ok : goal.returns-clause-ok
returns-clause-ok g c =
    subst (λ d. g.S.Sink.Adds c.args.sink.now c.give_text-in-Ok.new.sink (attribute_members d))
    (compact_is _ c.in_ok-text.text.items c.in-Ok.text.now (search rules) c.in_ok-text.ensures.text (c.in-Ok.ensures.cases.0 ∙ c.as_slice.ensures.value)) c.give_text-in-Ok.ensures
