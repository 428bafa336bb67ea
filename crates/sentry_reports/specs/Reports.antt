-- The table of reports, and when two are equal. Members of other keys are ignored.
use Rattle.std.specs.Prelude.{◌≡◌, List, [], ◌∷◌, codes, true, refl}
use Rattle.sentry_tables.specs.Cell.{Cell}
use Rattle.sentry_tables.specs.Fields.{Field, field, rows_of, table_of, fields_by}
use Rattle.sentry_tables.specs.Kind.{must, at_once, Kind, list, keys}
use Rattle.sentry_tables.specs.Written.{in_order}
use Rattle.sentry_tables.specs.Cells.{list_cell}
use Rattle.sentry_moments.specs.MomentForms.{seconds_kind}
use Rattle.sentry_moments.specs.Moments.{moment_cell}
use Rattle.sentry_moments.specs.declared.moment.Moment.{Moment}
use Rattle.sentry_reports.specs.ItemTable.{item_kind, item_cell}
use Rattle.sentry_reports.specs.ReportSums.{report_sum}
use Rattle.sentry_reports.specs.declared.category.Category.{Category}
use Rattle.sentry_reports.specs.declared.item.Item.{Item}
use Rattle.sentry_reports.specs.declared.reason.Reason.{Reason}
use Rattle.sentry_reports.specs.declared.report.Report.{Report}

unfoldable pub report_fields : List (Field Report)
report_fields =
    field (codes "discarded_events") must (list item_kind) (λ r. list_cell item_cell r.items)
    ∷ field (codes "timestamp") at_once seconds_kind (λ r. moment_cell r.timestamp)
    ∷ []

abbrev pub report_kind : Kind
report_kind = table_of report_fields

abbrev pub report_cell : Report → Cell
report_cell r = fields_by report_fields r

pub report_in_order : in_order (keys (rows_of report_fields)) ≡ true
unfolding report_fields
report_in_order = refl

-- ---- equality

-- the moments are the same, and for each category and reason the sums are
pub record AreReportsAlike (a b : Report) : Type 0 where
  pub moments : moment_cell a.timestamp ≡ moment_cell b.timestamp
  pub sums : (category : Category) (reason : Reason) → report_sum category reason a.items ≡ report_sum category reason b.items

-- a report of this moment with these items
abbrev pub report : Moment → List Item → Report
report moment items = record { timestamp = moment; items = items }
