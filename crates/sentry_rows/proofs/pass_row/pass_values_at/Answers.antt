use Rattle.std.proofs.Common.{◌≡◌, ◌==◌, Some, None, false, length, rules}
use Rattle.serde_json.specs.Find.{get}
use Rattle.sentry_tables.specs.Shows.{values_in}
use Rattle.sentry_tables.specs.Reading.{Only, RowRefusedAt}
use Rattle.sentry_moments.specs.Moments.{moment_cell}
use Rattle.sentry_tables.specs.Kind.{default, values}
use Rattle.sentry_tables.specs.Cells.{empty_list}
use Rattle.sentry_json.specs.Nodes.{items_data}
use Rattle.sentry_rows.specs.Fields.{read_of}
use Rattle.sentry_rows.proofs.PassedRows.{values_absent_at, values_refused_at, values_left_at, values_row_at, values_fail_at}
use Rattle.sentry_rows.proofs.pass_row.pass_values_at.Goals as goal

pub returns-in_default : goal.returns-in_default
returns-in_default g c =
    let is : get c.args.key.now (read_of g.N.Node.data_of c.args.from.now) ≡ None = search rules in
    values_absent_at _ _ _ _ _ is

pub returns-in_err-items : goal.returns-in_err-items
returns-in_err-items g c =
    let w = g.N.Node.data_of in
    let e = w c.in-Some.member.now in
    let is : get c.args.key.now (read_of w c.args.from.now) ≡ Some e = search rules in
    let h : Only c.in_err-items.field-0.0 (RowRefusedAt (moment_cell c.args.now) c.args.key.now (default empty_list) (values g.X.Member.kind) (read_of w c.args.from.now)) = values_refused_at _ _ _ _ e _ is c.in_err-items.ensures.err in
    search rules

pub returns-then-is_empty : goal.returns-then-is_empty
returns-then-is_empty g c =
    let w = g.N.Node.data_of in
    let e = w c.in-Some.member.now in
    let is : get c.args.key.now (read_of w c.args.from.now) ≡ Some e = search rules in
    let xs = c.in_ok-items.items.items in
    let at : values_in e ≡ Some (items_data w xs) = search rules in
    let none : length xs ≡ 0 = search rules in
    values_left_at w _ _ _ _ e xs _ is at none

pub returns-in_err-pass_list_at_moment : goal.returns-in_err-pass_list_at_moment
returns-in_err-pass_list_at_moment g c =
    let w = g.N.Node.data_of in
    let e = w c.in-Some.member.now in
    let is : get c.args.key.now (read_of w c.args.from.now) ≡ Some e = search rules in
    let xs = c.deref.result.now in
    let at : values_in e ≡ Some (items_data w xs) = search rules in
    let h : Only c.in_err-pass_list_at_moment.field-0.0 (RowRefusedAt (moment_cell c.args.now) c.args.key.now (default empty_list) (values g.X.Member.kind) (read_of w c.args.from.now)) = values_fail_at w _ _ _ _ e xs _ is at c.in_err-pass_list_at_moment.ensures in
    search rules

pub returns : goal.returns
returns g c =
    let w = g.N.Node.data_of in
    let e = w c.in-Some.member.now in
    let is : get c.args.key.now (read_of w c.args.from.now) ≡ Some e = search rules in
    let xs = c.deref.result.now in
    let at : values_in e ≡ Some (items_data w xs) = search rules in
    let some : (length xs == 0) ≡ false = search rules in
    values_row_at w _ _ _ _ e xs _ _ _ _ _ is at some c.in_ok-key.ensures c.in_ok-begin_object.ensures c.in_ok-pass_list_at_moment.ensures c.in_ok-end_object.ensures
