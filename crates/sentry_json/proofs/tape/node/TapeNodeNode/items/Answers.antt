use Rattle.std.proofs.Common.{Some, sym, ap, ◌∙◌}
use Rattle.sentry_json.proofs.Gathered.{items_before, items_before_none, items_push}
use Rattle.sentry_json.specs.Tokens.{items_of}
use Rattle.sentry_json.specs.TapeView.{node_data}
use Rattle.sentry_json.proofs.tape.node.TapeNodeNode.items.Goals as goal

pub loop-node-preserved : goal.loop-node-preserved
loop-node-preserved c =
    let l = c.loop-node in
    let xs = l.nodes.items in
    let next = c.in-Some-split_item in
    let left = items_of next.after.now in
    l.invariant ∙ ap (λ ds. Some (items_before node_data xs ds)) next.ensures.item ∙ ap Some (items_push node_data xs next.node left) ∙ ap (λ ys. Some (items_before node_data ys left)) (sym c.in_ok-push.ensures.items)

pub returns : goal.returns
returns c =
    let l = c.loop-node in
    sym (l.invariant ∙ ap (λ ds. Some (items_before node_data l.nodes.items ds)) c.in_default-split_item.ensures.item ∙ ap Some (items_before_none node_data l.nodes.items))
