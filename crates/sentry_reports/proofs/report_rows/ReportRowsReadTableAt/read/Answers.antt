-- by hand: the view of the rows
use Rattle.std.proofs.Common.{inl, inr, refl}
use Rattle.sentry_reports.specs.Reports.{report_fields}
use Rattle.sentry_reports.proofs.report_rows.ReportRowsReadTableAt.read.Goals as goal

pub returns : goal.returns
unfolding report_fields
returns g c = rw (c.new-2.ensures.timestamp, c.new-2.ensures.items) (_, inl c.required-discarded_events.ensures, (_, inr c.at_once_as-timestamp.ensures, refl))
