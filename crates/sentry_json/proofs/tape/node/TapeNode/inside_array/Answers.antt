use Rattle.std.proofs.Common.{sym, ◌∙◌}
use Rattle.sentry_json.proofs.TokenLists.{array_seen}
use Rattle.sentry_json.proofs.tape.node.TapeNode.inside_array.Goals as goal

pub returns-then-is_array : goal.returns-then-is_array
returns-then-is_array c =
    let first = c.in_ok-first in
    array_seen c.args.self.now.tokens.now first.inside.now first.first.now first.ensures.cases.0 (sym (c.is_array.ensures first.inside.now) ∙ c.if-is_array.true)
