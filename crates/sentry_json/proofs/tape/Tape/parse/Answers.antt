use Rattle.std.proofs.Common.{rules, ◌≡◌, Some, sym, ap, ◌∙◌}
use Rattle.sentry_json.specs.Tokens.{tokens_value}
use Rattle.sentry_json.proofs.Lexemes.{line_tree}
use Rattle.sentry_json.proofs.tape.Tape.parse.Goals as goal

pub returns-in-Some : goal.returns-in-Some
returns-in-Some c =
    let all = c.take_line.new.self.tokens.items in
    let node : c.new.result.tokens.now ≡ all = search rules in
    line_tree c.args.line.now all c.in-Some.ensures ∙ ap (λ ts. Some (tokens_value ts)) (sym node)
