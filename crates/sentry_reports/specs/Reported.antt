-- What a report is to those who read it: its moment and its items.
use Rattle.std.specs.Prelude.{List}
use Rattle.sentry_moments.specs.declared.moment.Moment.{Moment}
use Rattle.sentry_reports.specs.declared.item.Item.{Item}

pub record Reported : Type 0 where
  pub timestamp : Moment
  pub items : List Item
