use Rattle.std.proofs.Common.{◌≡◌, take}
use Rattle.sentry_json.specs.Nodes.{named_by}
use Rattle.sentry_tables.specs.Passed.{members_held}
use Rattle.sentry_tables.proofs.pass.by_key.Given as goal

-- the map holds the members that were walked
abbrev pub invariant-loop-member : goal.invariant-loop-member
invariant-loop-member g l = members_held g.N.Node.data_of l.nodes.entries ≡ named_by g.N.Node.data_of (take l.member-index l.members)
