use Rattle.std.proofs.Common.{rules, ◌∙◌}
use Rattle.serde_json.specs.Find.{get}
use Rattle.serde_json.specs.View.{view}
use Rattle.sentry_json.proofs.Each.{given_none, given_more, given_whole}
use Rattle.sentry_json.proofs.node.RefValueNode.get_each.Goals as goal

pub loop-i-init : goal.loop-i-init
loop-i-init c = c.requires.empty ∙ given_none (λ key. get key.now (view c.args.self.now.now)) c.args.keys.now

pub loop-i-preserved : goal.loop-i-preserved
loop-i-preserved c =
    let l = c.loop-i in
    given_more (λ tree. view tree.now) (λ key. get key.now (view c.args.self.now.now)) c.args.keys.now l.places l.i _ c.get.result c.loop-i-test.true c.get.ensures l.invariant

pub returns : goal.returns
returns c =
    let l = c.loop-i in
    given_whole (λ key. get key.now (view c.args.self.now.now)) c.args.keys.now _ l.i (search rules) l.invariant
