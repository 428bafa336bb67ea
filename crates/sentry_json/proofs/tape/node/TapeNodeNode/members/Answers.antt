use Rattle.std.proofs.Common.{Some, sym, ap, ◌∙◌}
use Rattle.sentry_json.specs.Nodes.{named_by}
use Rattle.sentry_json.proofs.Gathered.{named_last}
use Rattle.sentry_json.specs.Tokens.{members_of}
use Rattle.sentry_json.specs.TapeView.{node_data}
use Rattle.sentry_json.proofs.tape.node.TapeNodeNode.members.Goals as goal

pub loop-key-preserved : goal.loop-key-preserved
loop-key-preserved c =
    let l = c.loop-key in
    let next = c.in-Some-split_member in
    let made = ap (named_by node_data) c.in_ok-push.ensures.items ∙ named_last node_data l.named.items _ in
    l.invariant ∙ ap Some (next.ensures.0 (named_by node_data l.named.items)) ∙ ap (λ ms. Some (members_of next.after.now ms)) (sym made)
