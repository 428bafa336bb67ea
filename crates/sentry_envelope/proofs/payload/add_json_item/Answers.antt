use Rattle.sentry_moments.specs.Moments.{moment_cell}
use Rattle.sentry_envelope.proofs.ItemReads.{at_moment}
use Rattle.sentry_envelope.proofs.payload.add_json_item.Goals as goal

pub returns-in-Event-clause-err : goal.returns-in-Event-clause-err
returns-in-Event-clause-err g c = c.add_read.ensures.err (moment_cell c.args.now) c.read_apart_at-read.ensures

pub returns-in-SessionUpdate-clause-err : goal.returns-in-SessionUpdate-clause-err
returns-in-SessionUpdate-clause-err g c = c.add_read-in-SessionUpdate.ensures.err (moment_cell c.args.now) c.read_at.ensures

pub returns-in-SessionAggregates-clause-err : goal.returns-in-SessionAggregates-clause-err
returns-in-SessionAggregates-clause-err g c = c.add_read-in-SessionAggregates.ensures.err (moment_cell c.args.now) (at_moment _ _ _ _ _ c.read.ensures)

pub returns-in-Transaction-clause-err : goal.returns-in-Transaction-clause-err
returns-in-Transaction-clause-err g c = c.add_read-in-Transaction.ensures.err (moment_cell c.args.now) c.read_apart_at-read-in-Transaction.ensures

pub returns-in-MonitorCheckIn-clause-err : goal.returns-in-MonitorCheckIn-clause-err
returns-in-MonitorCheckIn-clause-err g c = c.add_read-in-MonitorCheckIn.ensures.err (moment_cell c.args.now) (at_moment _ _ _ _ _ c.read-in-MonitorCheckIn.ensures)

pub returns-in-UserReport-clause-err : goal.returns-in-UserReport-clause-err
returns-in-UserReport-clause-err g c = c.add_read-in-UserReport.ensures.err (moment_cell c.args.now) (at_moment _ _ _ _ _ c.read-in-UserReport.ensures)

pub returns-in-Logs-clause-err : goal.returns-in-Logs-clause-err
returns-in-Logs-clause-err g c = c.add_read-in-Logs.ensures.err (moment_cell c.args.now) (at_moment _ _ _ _ _ c.read_listed.ensures)

pub returns-in-Metrics-clause-err : goal.returns-in-Metrics-clause-err
returns-in-Metrics-clause-err g c = c.add_read-in-Metrics.ensures.err (moment_cell c.args.now) (at_moment _ _ _ _ _ c.read_listed-in-Metrics.ensures)

pub returns-in-ClientReport-clause-err : goal.returns-in-ClientReport-clause-err
returns-in-ClientReport-clause-err g c = c.add_read-in-ClientReport.ensures.err (moment_cell c.args.now) c.read_at-in-ClientReport.ensures
