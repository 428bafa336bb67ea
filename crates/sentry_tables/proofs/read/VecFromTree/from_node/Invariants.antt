use Rattle.std.proofs.Common.{take}
use Rattle.sentry_json.specs.Nodes.{items_data}
use Rattle.sentry_tables.specs.Cell.{Cell}
use Rattle.sentry_tables.specs.Cells.{cells}
use Rattle.sentry_tables.specs.Shows.{Shows, ItemsShow}
use Rattle.sentry_tables.proofs.read.VecFromTree.from_node.Given as goal

abbrev pub invariant-loop-item : goal.invariant-loop-item
invariant-loop-item g l = (now : Cell) → ItemsShow (Shows g.T.Member.kind now) (items_data g.N.Node.data_of (take l.item-index l.item-items)) (cells g.T.Member.cell_of l.list.items)
