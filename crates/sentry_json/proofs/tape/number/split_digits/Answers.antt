use Rattle.std.proofs.Common.{◌++◌, ap, ◌∙◌}
use Rattle.sentry_json.proofs.WordsAndTexts.{whole_spelled}
use Rattle.sentry_json.proofs.tape.number.split_digits.Goals as goal

pub returns-clause-spelled : goal.returns-clause-spelled
returns-clause-spelled c =
    let r = c.in_ok-rest in
    let parts = r.ensures.parts ∙ ap (λ f. f ++ r.rest.text.now) r.ensures.front in
    whole_spelled c.args.text.text.now r.rest.text.now c.args.number c.args.len parts c.requires
