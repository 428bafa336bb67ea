-- The losses that items report.
use Rattle.std.specs.Prelude.{List, Some, map}
use Rattle.sentry_reports.specs.declared.item.Item.{Item}
use Rattle.sentry_reports.specs.declared.item_loss.ItemLoss.{ItemLoss}

-- the loss that an item reports, with its reason
abbrev pub item_loss : Item → ItemLoss
item_loss item = record { category = item.category; quantity = item.quantity; reason = Some item.reason }

-- what is lost with a report of these items: a loss for each, in order
abbrev pub losses_reported : List Item → List ItemLoss
losses_reported items = map item_loss items
