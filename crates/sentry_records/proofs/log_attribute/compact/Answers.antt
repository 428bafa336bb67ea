use Rattle.std.proofs.Common.{rules, ap, ◌∙◌}
use Rattle.std.proofs.lemmas.Bool.{false≢true}
use Rattle.sentry_records.proofs.Attributes.{compact_is, compact_utf8}
use Rattle.sentry_records.proofs.log_attribute.compact.Goals as goal

pub unreachable-requires : goal.unreachable-requires
unreachable-requires c = false≢true (c.in-Err.ensures.succeeds (compact_utf8 _ _ (search rules) c.in_ok-text.ensures.utf8))

pub returns : goal.returns
returns c = c.from-in-Ok.ensures ∙ compact_is _ _ _ (search rules) c.in_ok-text.ensures.text (ap (λ v. v.items) c.in-Ok.ensures.ok)
