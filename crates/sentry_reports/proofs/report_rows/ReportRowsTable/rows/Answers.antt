-- by hand: the view of the rows
use Rattle.std.proofs.Common.{refl}
use Rattle.sentry_reports.specs.Reports.{report_fields}
use Rattle.sentry_reports.proofs.report_rows.ReportRowsTable.rows.Goals as goal

pub returns : goal.returns
unfolding report_fields
returns g c = rw (← c.self.view_is) (_, c.required.ensures, (_, c.at_once_as.ensures, refl))
