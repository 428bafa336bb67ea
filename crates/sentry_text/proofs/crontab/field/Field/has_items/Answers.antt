use Rattle.std.proofs.Common.{rules, tests}
use Rattle.std.proofs.Common.{lit<}
use Rattle.std.proofs.lemmas.Iterator.{cases_from_all}
use Rattle.std.proofs.lemmas.Iterator.Splits.{YieldsList-from_str_split}
use Rattle.sentry_text.specs.Crontab.{IsItem}
use Rattle.sentry_text.proofs.CrontabItems.{items_answer}
use Rattle.sentry_text.proofs.crontab.field.Field.has_items.Goals as goal

pub returns : goal.returns
returns c =
    items_answer c.args.self c.args.text.now c.all.result
    (cases_from_all _ _ _ (IsItem c.args.self) (λ t. IsItem c.args.self t → ⊥) c.all.ensures.ran (YieldsList-from_str_split 44 c.args.text.now (lit< tt) c.split.ensures.text c.split.ensures.has_more c.split.ensures.pattern) (λ x q k. search (rules, tests)) (λ x q k. search (rules, tests)))
