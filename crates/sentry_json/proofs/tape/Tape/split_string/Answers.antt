use Rattle.std.proofs.Common.{rules, ◌≡◌, Some, refl, string_bytes}
use Rattle.sentry_json.specs.Tokens.{text_of}
use Rattle.sentry_json.specs.declared.tape.token.Token.TheVariants as token
use Rattle.sentry_json.proofs.WordsAndTexts.{string_spelled}
use Rattle.sentry_json.proofs.tape.Tape.split_string.Goals as goal

pub returns-in-Some-clause-spelled : goal.returns-in-Some-clause-spelled
returns-in-Some-clause-spelled c =
    let q = c.in-Some.ensures.quoted in
    string_spelled c.args.text.text.now q.0 c.in-Some.rest.text.now c.in-Some.string.now (token.Text c.in-Some.string) q.1 refl q.2

pub returns-clause-spelled : goal.returns-clause-spelled
returns-clause-spelled c =
    let s = c.in_ok-string in
    let named : text_of (token.Text c.in-Ok.kept) ≡ Some (string_bytes s.string) = search rules in
    string_spelled c.args.text.text.now c.in_ok-after.field-0.text.now s.rest.text.now (string_bytes s.string) (token.Text c.in-Ok.kept) c.in_ok-after.ensures named s.ensures.quoted
