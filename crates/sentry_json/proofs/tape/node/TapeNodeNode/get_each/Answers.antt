use Rattle.std.proofs.Common.{rules, ◌<◌, length, Some, ap, ◌∙◌}
use Rattle.serde_json.specs.Data.{put}
use Rattle.sentry_json.proofs.Each.{others_stay, place_set, place_within}
use Rattle.sentry_json.specs.TapeView.{node_data}
use Rattle.sentry_json.proofs.tape.node.TapeNodeNode.get_each.Goals as goal

pub bounds-places-i : goal.bounds-places-i
bounds-places-i c = place_within _ _ c.args.keys.now c.loop-key.places _ c.in-Some-place.i c.loop-key.invariant.1 c.in-Some-place.ensures.found

pub offset_bounds-places-i : goal.offset_bounds-places-i
offset_bounds-places-i c =
    let within : c.in-Some-place.i < length c.loop-key.places = place_within _ _ c.args.keys.now c.loop-key.places _ c.in-Some-place.i c.loop-key.invariant.1 c.in-Some-place.ensures.found in
    search (within, rules)

pub loop-key-preserved-in-Some-place : goal.loop-key-preserved-in-Some-place
loop-key-preserved-in-Some-place c =
    let l = c.loop-key in
    let before = l.invariant.0 in
    let next = c.in-Some-split_member in
    let at = c.in-Some-place in (
      put next.key.now (node_data next.node) before,
      place_set node_data c.args.keys.now l.places next.key.now at.i next.node before at.ensures.found c.requires.distinct l.invariant.1,
      l.invariant.2 ∙ ap Some (next.ensures.0 before),
    )

pub loop-key-preserved : goal.loop-key-preserved
loop-key-preserved c =
    let l = c.loop-key in
    let before = l.invariant.0 in
    let next = c.in-Some-split_member in (
      put next.key.now (node_data next.node) before,
      l.invariant.1 ∙ others_stay c.args.keys.now next.key.now (node_data next.node) before c.in_default-place.ensures.none,
      l.invariant.2 ∙ ap Some (next.ensures.0 before),
    )
