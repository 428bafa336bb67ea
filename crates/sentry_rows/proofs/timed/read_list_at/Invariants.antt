use Rattle.std.proofs.Common.{take}
use Rattle.sentry_json.specs.Nodes.{items_data}
use Rattle.sentry_tables.specs.Cells.{cells}
use Rattle.sentry_tables.specs.Shows.{Shows, ItemsShow}
use Rattle.sentry_moments.specs.Moments.{moment_cell}
use Rattle.sentry_rows.proofs.timed.read_list_at.Given as goal

abbrev pub invariant-loop-item : goal.invariant-loop-item
invariant-loop-item g l = ItemsShow (Shows g.T.Member.kind (moment_cell l.now)) (items_data g.N.Node.data_of (take l.item-index l.item-items)) (cells g.T.Member.cell_of l.list.items)
