use Rattle.std.proofs.Common.{◌≡◌, Some, None, rules}
use Rattle.serde_json.specs.Find.{get, as_array}
use Rattle.sentry_json.specs.Nodes.{items_data}
use Rattle.sentry_moments.specs.Moments.{moment_cell}
use Rattle.sentry_tables.specs.Kind.{must, list}
use Rattle.sentry_tables.specs.Reading.{Only, RowRefusedAt}
use Rattle.sentry_rows.specs.Fields.{read_of}
use Rattle.sentry_rows.proofs.PassedRows.{list_missing_at, no_list_at, list_row_at}
use Rattle.sentry_rows.proofs.pass_row.pass_required_list_at.Goals as goal

pub returns-in_default : goal.returns-in_default
returns-in_default g c =
    let is : get c.args.key.now (read_of g.N.Node.data_of c.args.from.now) ≡ None = search rules in
    list_missing_at _ _ _ _ is

pub returns-in_err-items : goal.returns-in_err-items
returns-in_err-items g c =
    let w = g.N.Node.data_of in
    let e = w c.in-Some.member.now in
    let is : get c.args.key.now (read_of w c.args.from.now) ≡ Some e = search rules in
    let h : Only c.in_err-items.field-0.0 (RowRefusedAt (moment_cell c.args.now) c.args.key.now must (list g.X.Member.kind) (read_of w c.args.from.now)) = no_list_at _ _ _ _ e _ is c.in_err-items.ensures.err in
    search rules

pub returns : goal.returns
returns g c =
    let w = g.N.Node.data_of in
    let e = w c.in-Some.member.now in
    let is : get c.args.key.now (read_of w c.args.from.now) ≡ Some e = search rules in
    let xs = c.deref.result.now in
    let at : as_array e ≡ Some (items_data w xs) = search rules in
    list_row_at _ _ _ _ e (items_data w xs) _ _ _ is at c.pass_list_at_moment.ensures
