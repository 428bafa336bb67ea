use Rattle.std.proofs.Common.{rules, sym, subst}
use Rattle.sentry_tables.specs.Fields.{rows_of, cells_by}
use Rattle.sentry_tables.specs.Written.{put_all, rows_given}
use Rattle.sentry_tables.specs.Writes.{WritesMembers}
use Rattle.sentry_writing.specs.Sinks.{tag_left}
use Rattle.sentry_writing.proofs.OfTables.{while_none}
use Rattle.sentry_writing.proofs.table.write_members.Goals as goal

pub returns-in-None : goal.returns-in-None
returns-in-None g c =
    let ms = put_all (put_all (rows_given (rows_of g.T.Table.lines) (cells_by g.T.Table.lines c.args.value.now)) (tag_left c.args.tag.word)) (g.L.Others.left c.args.others) in
    let name = c.rows_among.ensures.0 in
    let q : WritesMembers ms c.args.out.now c.leave.new._sink = subst (λ s. WritesMembers ms c.args.out.now s) (sym c.leave.ensures) (while_none _ _ _ c.rows_among.ensures.1 c.in-None.is) in
    search rules
