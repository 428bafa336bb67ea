use Rattle.sentry_writing.proofs.RowByRow.{rows_added}
use Rattle.sentry_writing.proofs.table.Table.give.Goals as goal

pub returns : goal.returns
returns g c = rows_added g.S.Sink.Adds g.S.Sink.Tests g.met.S.Sink.nothing g.met.S.Sink.joined g.Self.Table.lines c.args.self.now _ _ c.rows.ensures
