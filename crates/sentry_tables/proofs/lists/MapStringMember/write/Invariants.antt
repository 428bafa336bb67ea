use Rattle.json.specs.Written.{Written}
use Rattle.sentry_tables.specs.Written.{members_tree}
use Rattle.sentry_tables.specs.Cells.{entries}
use Rattle.sentry_tables.specs.Writes.{written, WritesMembers}
use Rattle.sentry_tables.proofs.lists.MapStringMember.write.Given as goal

-- whatever writes the members that are left writes all of them
abbrev pub invariant-loop-key : goal.invariant-loop-key
invariant-loop-key g l =
    (end : Written) → WritesMembers (members_tree (written g.T.Member.kind) (entries g.T.Member.cell_of l.key-iterator)) l.out end
    → WritesMembers (members_tree (written g.T.Member.kind) (entries g.T.Member.cell_of l.self.entries)) l.initial.out end
