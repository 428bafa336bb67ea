use Rattle.sentry_text.proofs.CrontabItems.{range_of_bounds, no_range}
use Rattle.sentry_text.proofs.crontab.field.Field.has_range.Goals as goal

pub returns-in-Some : goal.returns-in-Some
returns-in-Some c = range_of_bounds c.args.self c.args.text.now c.in-Some.first c.in-Some.last c.spans.result c.if-eq.ensures c.in-Some.ensures.found c.in-Some.ensures.only c.spans.ensures

pub returns-in-None : goal.returns-in-None
returns-in-None c = no_range c.args.self c.args.text.now c.if-eq.ensures c.in-None.ensures.only
