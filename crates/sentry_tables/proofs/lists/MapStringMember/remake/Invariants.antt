use Rattle.std.proofs.Common.{◌≡◌, List, ◌++◌, String, Global}
use Rattle.sentry_tables.specs.Cells.{entries}
use Rattle.sentry_tables.specs.Made.{made}
use Rattle.sentry_tables.proofs.lists.MapStringMember.remake.Given as goal

abbrev pub invariant-loop-key : goal.invariant-loop-key
invariant-loop-key g l =
    (done : List (String Global × g.row.T.Denot)) × (l.self.entries ≡ done ++ l.key-iterator) × (entries g.T.Member.cell_of l.map.entries ≡ entries (λ x. made l.way g.T.Member.kind (g.T.Member.cell_of x)) done)
