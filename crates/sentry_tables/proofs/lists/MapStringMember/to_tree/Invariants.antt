use Rattle.std.proofs.Common.{◌≡◌, List, ◌++◌}
use Rattle.std.specs.Prelude.{String}
use Rattle.std.specs.declared.alloc.Global.{Global}
use Rattle.serde_json.specs.View.{members_view}
use Rattle.sentry_tables.specs.Cells.{entries}
use Rattle.sentry_tables.specs.Writes.{written}
use Rattle.sentry_tables.specs.Written.{members_tree}
use Rattle.sentry_tables.proofs.lists.MapStringMember.to_tree.Given as goal

abbrev pub invariant-loop-key : goal.invariant-loop-key
invariant-loop-key g l =
    (done : List (String Global × g.row.T.Denot)) × (l.self.entries ≡ done ++ l.key-iterator) × (members_view l.members.entries ≡ members_tree (written g.T.Member.kind) (entries g.T.Member.cell_of done))
