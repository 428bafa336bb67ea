use Rattle.sentry_text.proofs.CrontabParts.{starts_with, too_long, wrong_part, right_part, all_parts}
use Rattle.sentry_text.proofs.crontab.validate.Goals as goal

pub returns-in_default : goal.returns-in_default
returns-in_default c =
    too_long c.loop-part.fields.now _ _ _ c.loop-part.invariant c.in_default.ensures.cases (starts_with _ c.in-Some.part.now _ c.in-Some.ensures.steps)

pub returns-then-not-has_part : goal.returns-then-not-has_part
returns-then-not-has_part c =
    wrong_part c.loop-part.fields.now c.in-Some-split_first.field.now c.in-Some-split_first.rest.now _ _ _ c.loop-part.invariant c.in-Some-split_first.ensures.cases.0 (starts_with _ c.in-Some.part.now _ c.in-Some.ensures.steps) c.if-not-has_part.ensures

pub loop-part-preserved : goal.loop-part-preserved
loop-part-preserved c =
    right_part c.loop-part.fields.now c.in-Some-split_first.field.now c.in-Some-split_first.rest.now _ _ _ c.loop-part.invariant c.in-Some-split_first.ensures.cases.0 (starts_with _ c.in-Some.part.now _ c.in-Some.ensures.steps) c.if-not-has_part.ensures

pub returns : goal.returns
returns c = all_parts c.loop-part.fields.now _ c.is_empty.result c.loop-part.invariant c.in-None.ensures.steps.1 c.is_empty.ensures
