use Rattle.std.proofs.Common.{◌≡◌, ap, ◌∙◌, sym, arith}
use Rattle.sentry_json.proofs.Gathered.{named_more}
use Rattle.serde_json.specs.Data.{put}
use Rattle.sentry_tables.proofs.Passing.{held_put}
use Rattle.sentry_tables.specs.Passed.{members_held}
use Rattle.sentry_tables.proofs.pass.by_key.Goals as goal

pub loop-member-preserved : goal.loop-member-preserved
loop-member-preserved g c =
    let l = c.loop-member in
    let m = c.member-item.result in
    let w = g.N.Node.data_of in
    ap (members_held w) c.in_ok-insert.ensures.entries ∙ held_put w l.nodes.entries _ _ ∙ ap (put m.key.now (w m.node)) l.invariant ∙ sym (named_more w c.args.members.now l.member-index m (omega arith) c.member-item.is)
