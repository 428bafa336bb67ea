use Rattle.std.proofs.Common.{◌≡◌, Some, None, true, rules}
use Rattle.std.specs.Prelude.{is_some}
use Rattle.serde_json.specs.Find.{as_null, get}
use Rattle.sentry_rows.specs.Fields.{read_of}
use Rattle.sentry_rows.proofs.PassedRows.{or_null_absent, or_null_null}
use Rattle.sentry_rows.proofs.pass_row.pass_optional_or_null.Goals as goal

pub returns-in_default : goal.returns-in_default
returns-in_default g c =
    let is : get c.args.key.now (read_of g.N.Node.data_of c.args.from.now) ≡ None = search rules in
    or_null_absent _ _ _ _ _ _ is c.in_ok-key.ensures c.in_ok-null.ensures

pub returns-then-is_null : goal.returns-then-is_null
returns-then-is_null g c =
    let e = g.N.Node.data_of c.in-Some.member.now in
    let is : get c.args.key.now (read_of g.N.Node.data_of c.args.from.now) ≡ Some e = search rules in
    let empty : is_some (as_null e) ≡ true = search rules in
    or_null_null _ _ _ e _ _ _ is empty c.in_ok-key-2.ensures c.in_ok-null-2.ensures
