use Rattle.std.proofs.Common.{◌≡◌, ◌==◌, Some, None, false, length, rules}
use Rattle.serde_json.specs.Find.{get, as_array}
use Rattle.sentry_tables.specs.Reading.{Only, RowRefused}
use Rattle.sentry_tables.specs.Kind.{default, list}
use Rattle.sentry_tables.specs.Cells.{empty_list}
use Rattle.sentry_json.specs.Nodes.{items_data}
use Rattle.sentry_rows.specs.Fields.{read_of}
use Rattle.sentry_rows.proofs.PassedRows.{list_absent, no_list, list_left, list_row}
use Rattle.sentry_rows.proofs.pass_row.pass_list.Goals as goal

pub returns-in_default : goal.returns-in_default
returns-in_default g c =
    let is : get c.args.key.now (read_of g.N.Node.data_of c.args.from.now) ≡ None = search rules in
    list_absent _ _ _ _ is

pub returns-in_err-items : goal.returns-in_err-items
returns-in_err-items g c =
    let w = g.N.Node.data_of in
    let e = w c.in-Some.member.now in
    let is : get c.args.key.now (read_of w c.args.from.now) ≡ Some e = search rules in
    let h : Only c.in_err-items.field-0.0 (RowRefused c.args.key.now (default empty_list) (list g.X.Member.kind) (read_of w c.args.from.now)) = no_list _ _ _ e _ is c.in_err-items.ensures.err in
    search rules

pub returns-then-is_empty : goal.returns-then-is_empty
returns-then-is_empty g c =
    let w = g.N.Node.data_of in
    let e = w c.in-Some.member.now in
    let is : get c.args.key.now (read_of w c.args.from.now) ≡ Some e = search rules in
    let xs = c.in_ok-items.items.items in
    let at : as_array e ≡ Some (items_data w xs) = search rules in
    let none : length xs ≡ 0 = search rules in
    list_left w _ _ _ e xs _ is at none

pub returns : goal.returns
returns g c =
    let w = g.N.Node.data_of in
    let e = w c.in-Some.member.now in
    let is : get c.args.key.now (read_of w c.args.from.now) ≡ Some e = search rules in
    let xs = c.deref.result.now in
    let at : as_array e ≡ Some (items_data w xs) = search rules in
    let some : (length xs == 0) ≡ false = search rules in
    list_row w _ _ _ e xs _ _ _ is at some c.pass_list_at.ensures
