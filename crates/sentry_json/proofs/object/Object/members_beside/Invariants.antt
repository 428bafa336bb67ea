use Rattle.std.proofs.Common.{◌≡◌, map, take}
use Rattle.serde_json.specs.View.{members_view}
use Rattle.sentry_json.specs.Keys.{beside}
use Rattle.sentry_json.specs.Nodes.{named_by}
use Rattle.sentry_json.proofs.object.Object.members_beside.Given as goal

abbrev pub invariant-loop-member : goal.invariant-loop-member
invariant-loop-member g l = members_view l.others.entries ≡ beside (map (λ name. name.now) l.names) (named_by g.N.Node.data_of (take l.member-index l.member-items))
