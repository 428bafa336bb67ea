use Rattle.std.proofs.Common.{◌≡◌, ◌∷◌, [], false, Some, length, refl, ap, sym, subst, ◌∙◌}
use Rattle.serde_json.specs.Data.{object, no_members}
use Rattle.sentry_json.specs.Spelled.{Spells}
use Rattle.sentry_json.specs.Tokens.{members_of, tokens_value}
use Rattle.sentry_json.specs.declared.tape.token.Token.TheVariants as token
use Rattle.sentry_json.proofs.Lexemes.{no_bytes, parsed}
use Rattle.sentry_json.proofs.SoFar.{value_behind, value_before}
use Rattle.sentry_json.proofs.TokenLists.{value_object}
use Rattle.sentry_json.proofs.tape.Tape.take_object.Goals as goal

pub returns : goal.returns
returns c =
    let t = c.in_ok-members.ensures in
    let text = c.in_ok-text.text.text.now in
    let front = c.skip_space.result.text.now in
    let rest = c.in_ok-members.rest.text.now in
    let end = c.skip_space-end.result.text.now in
    let none : end ≡ [] = no_bytes end (c.if-not-is_empty.ensures) in
    let first = token.Object (length t.0) in
    let opened = subst (λ s. Spells false s rest first t.0 127) (sym c.in_ok-inside.ensures) t.2 in (
      object (members_of t.0 no_members),
      parsed c.args.line.now text end (first ∷ t.0) first t.0 c.in_ok-text.ensures.text c.in_ok-text.ensures.utf8 none refl (value_behind text front end first t.0 127 c.skip_space.ensures.spaced (value_before front rest end first t.0 127 opened c.skip_space-end.ensures.spaced)) ∙ ap Some (value_object (length t.0) t.0),
      ap tokens_value t.3 ∙ value_object (length t.1) t.1 ∙ ap object t.4,
      t.5,
    )
