use Rattle.std.proofs.Common.{◌≡◌, None, rules}
use Rattle.serde_json.specs.Find.{get}
use Rattle.sentry_rows.specs.Fields.{read_of}
use Rattle.sentry_rows.proofs.PassedRows.{no_list_written}
use Rattle.sentry_rows.proofs.pass_row.pass_written_list.Goals as goal

pub returns-in_default : goal.returns-in_default
returns-in_default g c =
    let is : get c.args.key.now (read_of g.N.Node.data_of c.args.from.now) ≡ None = search rules in
    no_list_written _ _ _ _ _ _ _ is c.in_ok-key.ensures c.in_ok-begin_array.ensures c.in_ok-end_array.ensures
