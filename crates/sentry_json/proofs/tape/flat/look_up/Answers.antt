use Rattle.std.proofs.Common.{◌≡◌, []}
use Rattle.serde_json.specs.Data.{object, no_members}
use Rattle.sentry_json.specs.Tokens.{members_of}
use Rattle.sentry_json.proofs.Flat.{object_line}
use Rattle.sentry_json.proofs.Lexemes.{no_bytes}
use Rattle.sentry_json.proofs.tape.flat.look_up.Goals as goal

pub returns : goal.returns
returns c =
    let t = c.in_ok-rest.ensures in
    let rest = c.in_ok-rest.rest.text.now in
    let none : rest ≡ [] = no_bytes rest (c.if-not-is_empty.ensures) in (
      object (members_of t.0 no_members),
      object_line c.args.line.now c.in_ok-text.text.text.now c.in_ok-inside.inside.text.now rest t.0 c.in_ok-text.ensures.text c.in_ok-text.ensures.utf8 c.in_ok-inside.ensures none t.1,
      t.2,
    )
