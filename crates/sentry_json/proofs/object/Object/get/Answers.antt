use Rattle.std.proofs.Common.{◌≡◌, take, arith, ap, sym, subst, ◌∙◌, zero}
use Rattle.std.proofs.lemmas.List.{take_all}
use Rattle.serde_json.specs.Find as find
use Rattle.sentry_json.specs.Nodes.{named_by}
use Rattle.sentry_json.proofs.Gathered.{named_here, named_there}
use Rattle.sentry_json.proofs.object.Object.get.Goals as goal

pub loop-left-init : goal.loop-left-init
loop-left-init g c =
    let ms = c.args.self.now.members.items in
    (omega arith, ap (λ xs. find.get_member c.args.key.now (named_by g.N.Node.data_of xs)) (take_all c.len-left.result ms (omega arith)))

pub index-member-requires : goal.index-member-requires
index-member-requires g c = omega (arith, c.loop-left.invariant.0)

pub returns-then-is_same : goal.returns-then-is_same
returns-then-is_same g c =
    let ms = c.args.self.now.members.items in
    let here = named_here g.N.Node.data_of ms c.loop-left.left c.index-member.result.now c.args.key.now (omega arith) c.loop-left.invariant.0 c.index-member.ensures (sym c.is_same.ensures ∙ c.if-is_same.true) in
    sym here ∙ c.loop-left.invariant.1

pub loop-left-preserved : goal.loop-left-preserved
loop-left-preserved g c =
    let ms = c.args.self.now.members.items in
    let there = named_there g.N.Node.data_of ms c.loop-left.left c.index-member.result.now c.args.key.now (omega arith) c.loop-left.invariant.0 c.index-member.ensures (sym c.is_same.ensures ∙ c.if-is_same.false) in
    (omega (arith, c.loop-left.invariant.0), sym there ∙ c.loop-left.invariant.1)

pub returns : goal.returns
returns g c =
    let none : c.loop-left.left ≡ zero = omega arith in
    subst (λ n. find.get_member c.args.key.now (named_by g.N.Node.data_of (take n c.args.self.now.members.items)) ≡ find.get_member c.args.key.now (named_by g.N.Node.data_of c.args.self.now.members.items)) none c.loop-left.invariant.1
