use Rattle.std.proofs.Common.{rules, ◌≡◌, sym, ap, ◌∙◌}
use Rattle.std.proofs.lemmas.Option.{IfSome_then}
use Rattle.serde_json.specs.Written.{has_float}
use Rattle.sentry_json.specs.Tokens.{tokens_value}
use Rattle.sentry_json.proofs.Lines.{tree_of_from, tree_of_none}
use Rattle.sentry_json.proofs.tape.Tape.take_floats.Goals as goal

pub returns-clause-none : goal.returns-clause-none
returns-clause-none c =
    let all = c.take_line.new.self.tokens.items in
    let line = c.in_ok-take_line.ensures in
    let node : c.new.result.tokens.now ≡ all = search rules in
    IfSome_then c.has_float.result c.has_float.ensures (λ float is found. tree_of_none c.args.line.now (tokens_value all) line.read (ap (λ ts. has_float (tokens_value ts)) (sym node) ∙ sym is ∙ found))

pub returns-clause-some : goal.returns-clause-some
returns-clause-some c =
    let all = c.take_line.new.self.tokens.items in
    let line = c.in_ok-take_line.ensures in
    let node : c.new.result.tokens.now ≡ all = search rules in
    IfSome_then c.has_float.result c.has_float.ensures (λ float is found. tree_of_from c.args.line.now (tokens_value all) line.utf8 line.read (ap (λ ts. has_float (tokens_value ts)) (sym node) ∙ sym is ∙ found))
