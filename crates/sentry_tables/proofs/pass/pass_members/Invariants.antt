use Rattle.json.specs.Written.{Written}
use Rattle.sentry_json.specs.Nodes.{named_by}
use Rattle.sentry_tables.specs.Passed.{MembersPassed, MembersRefused, members_held}
use Rattle.sentry_tables.proofs.pass.pass_members.Given as goal

-- whatever passes the members that are left passes all of them, and where those are refused, all are
abbrev pub invariant-loop-key : goal.invariant-loop-key
invariant-loop-key g l =
    ((end : Written) → MembersPassed g.T.Member.kind (members_held g.N.Node.data_of l.key-iterator) l.out end → MembersPassed g.T.Member.kind (named_by g.N.Node.data_of l.fn.members) l.initial.out end)
    × (MembersRefused g.T.Member.kind (members_held g.N.Node.data_of l.key-iterator) → MembersRefused g.T.Member.kind (named_by g.N.Node.data_of l.fn.members))
