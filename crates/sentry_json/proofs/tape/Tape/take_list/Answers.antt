use Rattle.std.proofs.Common.{◌≡◌, [], Some, refl, ap, rules}
use Rattle.sentry_json.specs.declared.tape.token.Token.TheVariants as token
use Rattle.sentry_json.proofs.Lexemes.{no_bytes}
use Rattle.sentry_json.proofs.Lists.{list_line}
use Rattle.sentry_json.proofs.WordsAndTexts.{string_spelled}
use Rattle.sentry_json.proofs.tape.Tape.take_list.Goals as goal

pub returns : goal.returns
returns g c =
    let first = c.skip_space.result.text.now in
    let behind = c.in_ok-name.behind.text.now in
    let end = c.skip_space-end.result.text.now in
    let name = c.in_ok-name.name in
    let quoted = c.in_ok-name.ensures.quoted in
    let colon = c.in_ok-colon.ensures.follows in
    let close = c.in_ok-rest.ensures.follows in
    let t = c.in_ok-list.ensures in
    let none : end ≡ [] = no_bytes end (c.if-not-is_empty.ensures) in
    let same : name.now ≡ c.args.key.now = search rules in (
      t.1,
      list_line c.args.line.now c.in_ok-text.text.text.now c.skip_space-front.result.text.now c.in_ok-brace.brace.text.now first behind colon.0 c.in_ok-colon.colon.text.now c.skip_space-2.result.text.now c.in_ok-inside.inside.text.now c.in_ok-list.list.text.now close.0 c.in_ok-rest.rest.text.now end (token.Text name) c.args.key.now t.0 t.1
          c.in_ok-text.ensures.text c.in_ok-text.ensures.utf8 c.skip_space-front.ensures.spaced c.in_ok-brace.ensures c.skip_space.ensures.spaced (string_spelled first quoted.0 behind name.now (token.Text name) quoted.1 refl quoted.2) (ap Some same)
          colon.1 colon.2 c.skip_space-2.ensures.spaced c.in_ok-inside.ensures t.3 t.2 close.1 close.2 c.skip_space-end.ensures.spaced none,
      t.4,
    )
