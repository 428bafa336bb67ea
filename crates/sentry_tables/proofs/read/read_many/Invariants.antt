use Rattle.std.proofs.Common.{take}
use Rattle.sentry_tables.specs.Cell.{Cell}
use Rattle.sentry_tables.specs.Shows.{Shows}
use Rattle.sentry_tables.proofs.ManyShown.{PairsShow}
use Rattle.sentry_tables.proofs.read.read_many.Given as goal

-- the pairs show the members that were read
abbrev pub invariant-loop-member : goal.invariant-loop-member
invariant-loop-member g l =
    (now : Cell) → PairsShow (λ key. Shows g.T.Member.kind now) g.N.Node.data_of g.T.Member.cell_of (take l.member-index l.fn.members.items) l.pairs.items
