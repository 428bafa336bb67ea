use Rattle.std.proofs.Common.{rules}
use Rattle.sentry_tables.specs.Fields.{rows_of, cells_by}
use Rattle.sentry_tables.specs.Written.{put_all, rows_given}
use Rattle.sentry_writing.specs.Sinks.{tag_left}
use Rattle.sentry_writing.proofs.Merging.{all_merged, rows_and_tag_ordered}
use Rattle.sentry_writing.proofs.beside.rows_among.Goals as goal

pub returns : goal.returns
returns g c =
    let rows = rows_of g.T.Table.lines in
    let cs = cells_by g.T.Table.lines c.args.value.now in
    let tagged = put_all (rows_given rows cs) (tag_left c.args.tag.word) in
    let h : g.S.Sink.Adds c.args.sink.now c.hand_rest.new.sink (put_all tagged (g.L.Others.left c.args.others)) = all_merged g.S.Sink.Adds g.met.S.Sink.joined _ _ _ tagged _ _ (rows_and_tag_ordered rows cs c.args.tag.word) c.rows_beside.ensures.1 c.hand_rest.ensures in
    search rules
