use Rattle.std.proofs.Common.{rules}
use Rattle.sentry_json.proofs.Escapes.{unit_passes, pair_passes}
use Rattle.sentry_json.proofs.tape.escape.split_unicode.Goals as goal

pub returns-then-unit-lt55296-clause-escape : goal.returns-then-unit-lt55296-clause-escape
returns-then-unit-lt55296-clause-escape c =
    let u = c.in_ok-unit in
    let char = c.in_ok-from_u32 in
    unit_passes c.args.text.text.now u.rest.text.now u.unit char.field-0 u.ensures.unit char.ensures.cases char.ensures.value.1

pub returns-clause-escape : goal.returns-clause-escape
returns-clause-escape c =
    let u = c.in_ok-unit in
    let slash = c.in_ok-after in
    let next = c.in_ok-after-2 in
    let low = c.in_ok-low in
    pair_passes c.args.text.text.now u.rest.text.now slash.field-0.text.now next.field-0.text.now low.rest.text.now u.unit low.low c.in_ok-character.character
    u.ensures.unit slash.ensures next.ensures low.ensures.unit c.if-unit-lt55296.false c.if-unit-ge56320.false c.if-low-lt56320.false (search rules) c.in_ok-character.ensures.value.1
