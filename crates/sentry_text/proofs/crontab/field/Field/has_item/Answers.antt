use Rattle.sentry_text.proofs.CrontabItems.{number_item, range_item}
use Rattle.sentry_text.proofs.crontab.field.Field.has_item.Goals as goal

pub returns-in-Some : goal.returns-in-Some
returns-in-Some c = number_item c.args.self c.args.text.now c.in-Some.number c.contains.result c.in-Some.ensures.found c.contains.ensures

pub returns-in-None : goal.returns-in-None
returns-in-None c = range_item c.args.self c.args.text.now c.has_stepped_range.result c.in-None.ensures.only c.has_stepped_range.ensures
