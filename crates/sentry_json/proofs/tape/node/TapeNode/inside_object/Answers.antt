use Rattle.std.proofs.Common.{sym, ◌∙◌}
use Rattle.sentry_json.proofs.TokenLists.{object_seen}
use Rattle.sentry_json.proofs.tape.node.TapeNode.inside_object.Goals as goal

pub returns-then-is_object : goal.returns-then-is_object
returns-then-is_object c =
    let first = c.in_ok-first in
    object_seen c.args.self.now.tokens.now first.inside.now first.first.now first.ensures.cases.0 (sym (c.is_object.ensures first.inside.now) ∙ c.if-is_object.true)
