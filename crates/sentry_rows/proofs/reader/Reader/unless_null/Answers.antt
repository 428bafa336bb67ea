use Rattle.std.proofs.Common.{rules}
use Rattle.sentry_json.specs.Nodes.{object_data}
use Rattle.sentry_tables.specs.Cell.{absent}
use Rattle.sentry_tables.specs.Kind.{may}
use Rattle.sentry_rows.proofs.Reading.{field_failed}
use Rattle.sentry_rows.proofs.RowLemmas.{may_fails}
use Rattle.sentry_rows.proofs.reader.Reader.unless_null.Goals as goal

pub returns-in-Err : goal.returns-in-Err
returns-in-Err g c =
    let data_of = g.N.Node.data_of in
    let tree = object_data data_of c.args.self.now.object in
    let refused = may_fails c.args.key.now g.F.Codec.kind tree (data_of c.in-Some.member.now) c.in-Err.error (search rules) (search rules) (search rules) in
    field_failed data_of c.args.key.now may g.F.Codec.kind absent c.in-Err.error tt c.args.self.now c.keep.new.self refused c.keep.ensures
