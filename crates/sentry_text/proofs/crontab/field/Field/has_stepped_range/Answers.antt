use Rattle.sentry_text.proofs.CrontabItems.{stepped_answer, stepped_fails, unstepped_answer}
use Rattle.sentry_text.proofs.crontab.field.Field.has_stepped_range.Goals as goal

pub returns-then-has_range : goal.returns-then-has_range
returns-then-has_range c = stepped_answer c.args.self c.args.text.now c.in-Some.range.now c.in-Some.step.now c.is_step.result c.in-Some.ensures c.if-has_range.ensures c.is_step.ensures

pub returns-else-has_range : goal.returns-else-has_range
returns-else-has_range c = stepped_fails c.args.self c.args.text.now c.in-Some.range.now c.in-Some.step.now c.has_range.result c.in-Some.ensures c.if-has_range.false c.has_range.ensures

pub returns-in-None : goal.returns-in-None
returns-in-None c = unstepped_answer c.args.self c.args.text.now c.has_range-in-None.result c.in-None.ensures c.has_range-in-None.ensures
