use Rattle.std.proofs.Common.{◌≡◌, ◌∷◌, ap, subst, ◌∙◌, rules}
use Rattle.sentry_json.specs.Nodes.{named_by}
use Rattle.sentry_tables.specs.Reading.{Only}
use Rattle.sentry_tables.specs.Passed.{MembersPassed, MembersRefused, members_held}
use Rattle.sentry_tables.proofs.Passing.{no_members_passed, members_passed, member_refused, members_refused, only_through}
use Rattle.sentry_tables.proofs.pass.pass_members.Goals as goal

pub loop-key-init : goal.loop-key-init
loop-key-init g c =
    let held : members_held g.N.Node.data_of c.into_iter-key-iterator.result ≡ named_by g.N.Node.data_of c.args.members.now =
    ap (members_held g.N.Node.data_of) (c.into_iter-key-iterator.ensures.into_iter_gives ∙ c.iter-key-items.ensures.rest) ∙ c.in_ok-nodes.ensures in (
      λ end h. subst (λ ms. MembersPassed g.T.Member.kind ms c.args.out.now end) held h,
      λ h. subst (MembersRefused g.T.Member.kind) held h,
    )

pub loop-key-preserved : goal.loop-key-preserved
loop-key-preserved g c =
    let l = c.loop-key in
    let here : l.key-iterator ≡ (c.in-Some.key.now, c.in-Some.node.now) ∷ c.next.new.self = c.in-Some.ensures.steps in (
      λ end rest. l.invariant.0 end (rw here (members_passed _ _ _ _ _ _ _ _ c.in_ok-key.ensures c.in_ok-pass.ensures rest)),
      λ rest. l.invariant.1 (rw here (members_refused _ _ _ _ rest)),
    )

pub returns-in_err-pass : goal.returns-in_err-pass
returns-in_err-pass g c =
    let l = c.loop-key in
    let here : l.key-iterator ≡ (c.in-Some.key.now, c.in-Some.node.now) ∷ c.next.new.self = c.in-Some.ensures.steps in
    let h : Only c.in_err-pass.field-0.0 (MembersRefused g.T.Member.kind (named_by g.N.Node.data_of c.args.members.now)) =
    only_through _ _ _ (λ refused. l.invariant.1 (rw here (member_refused _ _ _ _ refused))) c.in_err-pass.ensures in
    search rules

pub returns : goal.returns
returns g c =
    let l = c.loop-key in
    l.invariant.0 _ (rw c.in-None.ensures.steps.0 (no_members_passed _ _))
