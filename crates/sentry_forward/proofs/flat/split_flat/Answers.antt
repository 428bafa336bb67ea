use Rattle.std.proofs.Common.{option_map, ap}
use Rattle.sentry_forward.proofs.FlatHeaders.{begun, flat_header, next}
use Rattle.sentry_forward.proofs.flat.split_flat.Goals as goal

pub loop-name-init : goal.loop-name-init
loop-name-init c = begun c.args.body.now c.in_ok-left.left.now c.in_ok-left.ensures

pub loop-name-preserved : goal.loop-name-preserved
loop-name-preserved c =
    next c.args.body.now c.loop-name.left.now c.in_ok-name.rest.now _ _ c.loop-name.length c.in_ok-name.number c.loop-name.invariant c.in_ok-name.ensures c.in-Some.next.now c.in-Some.ensures

pub returns-in_default : goal.returns-in_default
returns-in_default c =
    flat_header c.args.body.now c.loop-name.left.now c.in_ok-name.rest.now _ _ c.loop-name.length c.in_ok-name.number c.loop-name.invariant c.in_ok-name.ensures c.in_ok-after.after.now c.in_ok-word.field-0.now c.in_ok-after.ensures
    (ap (option_map (λ w. w.now)) c.in_ok-word.was)
