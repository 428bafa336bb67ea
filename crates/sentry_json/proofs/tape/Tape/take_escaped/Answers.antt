use Rattle.std.proofs.Common.{rules, refl, string_bytes}
use Rattle.sentry_json.specs.declared.tape.token.Token.TheVariants as token
use Rattle.sentry_json.proofs.WordsAndTexts.{text_token}
use Rattle.sentry_json.proofs.tape.Tape.take_escaped.Goals as goal

pub returns-then-not-this-clause-spelled : goal.returns-then-not-this-clause-spelled
returns-then-not-this-clause-spelled g c =
    let s = string_bytes c.in_ok-text.text in
    (text_token s, s, refl, search rules, c.in_ok-text.ensures.quoted)

pub returns-clause-spelled : goal.returns-clause-spelled
returns-clause-spelled g c = (token.Text c.in-Ok.kept, string_bytes c.in_ok-text.text, search rules, search rules, c.in_ok-text.ensures.quoted)
