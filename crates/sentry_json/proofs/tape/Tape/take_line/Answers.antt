use Rattle.std.proofs.Common.{◌≡◌, ◌++◌, ◌∷◌, [], ap, ◌∙◌}
use Rattle.sentry_json.proofs.Lexemes.{no_bytes, line_taken}
use Rattle.sentry_json.proofs.SoFar.{value_behind, value_before}
use Rattle.sentry_json.proofs.tape.Tape.take_line.Goals as goal

pub returns : goal.returns
returns g c =
    let v = c.in_ok-rest.ensures.spelled in
    let line = c.args.line.now in
    let text = c.in_ok-text.text.text.now in
    let front = c.skip_space-front in
    let end = c.skip_space-end.result.text.now in
    let none : end ≡ [] = no_bytes end (c.if-not-is_empty.ensures) in
    line_taken line text end c.take_value.new.self.tokens.items v.0 v.1 c.in_ok-text.ensures.text c.in_ok-text.ensures.utf8 none (v.2 ∙ ap (λ ts. ts ++ (v.0 ∷ v.1)) c.in_ok-text.ensures.empty) (value_behind text front.result.text.now end v.0 v.1 127 front.ensures.spaced (value_before front.result.text.now c.in_ok-rest.rest.text.now end v.0 v.1 127 v.3 c.skip_space-end.ensures.spaced))
