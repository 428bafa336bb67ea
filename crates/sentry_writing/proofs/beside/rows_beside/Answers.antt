use Rattle.std.proofs.Common.{rules}
use Rattle.sentry_tables.specs.Fields.{rows_of, cells_by}
use Rattle.sentry_tables.specs.Written.{put_all, rows_given}
use Rattle.sentry_writing.proofs.Merging.{rows_merged}
use Rattle.sentry_writing.proofs.beside.rows_beside.Goals as goal

pub returns : goal.returns
returns g c =
    let rows = rows_of g.T.Table.lines in
    let cs = cells_by g.T.Table.lines c.args.value.now in
    let h : g.S.Sink.Adds c.args.sink.now c.hand_rest.new.sink (put_all (rows_given rows cs) (g.L.Others.left c.args.others)) = rows_merged g.S.Sink.Adds g.met.S.Sink.joined _ _ _ rows cs _ _ g.met.T.Table.ordered c.give.ensures.1 c.hand_rest.ensures in
    search rules
