use Rattle.std.proofs.Common.{refl}
use Rattle.sentry_json.specs.declared.tape.token.Token.TheVariants as token
use Rattle.sentry_json.proofs.WordsAndTexts.{string_spelled, text_spelled}
use Rattle.sentry_json.proofs.tape.flat.split_scalar.Goals as goal

pub returns-in-Some-clause-spelled : goal.returns-in-Some-clause-spelled
returns-in-Some-clause-spelled c =
    let text = c.args.text.text.now in
    let plain = c.in-Some in
    let q = plain.ensures.quoted in
    text_spelled text plain.rest.text.now (token.Text plain.string) 0 (string_spelled text q.0 plain.rest.text.now plain.string.now (token.Text plain.string) q.1 refl q.2)
