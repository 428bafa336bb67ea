use Rattle.std.proofs.Common.{rules}
use Rattle.json.specs.Print.{IsNumber}
use Rattle.sentry_json.proofs.WordsAndTexts.{float_spelled}
use Rattle.sentry_json.proofs.tape.number.split_float.Goals as goal

pub returns-clause-spelled : goal.returns-clause-spelled
returns-clause-spelled c =
    let front = c.in_ok-front.front.now in
    let f = c.in_ok-parse_float in
    let is : IsNumber front = search rules in
    float_spelled c.args.text.text.now front c.in_ok-front.rest.text.now f.field-0 c.in_ok-front.ensures.parts is f.ensures
