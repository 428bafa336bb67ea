use Rattle.std.proofs.Common.{◌≡◌, ◌==◌, Some, None, false, length, rules}
use Rattle.serde_json.specs.Find.{get, as_object}
use Rattle.sentry_tables.specs.Reading.{Only, RowRefused}
use Rattle.sentry_tables.specs.Kind.{default, map}
use Rattle.sentry_tables.specs.Cells.{empty_map}
use Rattle.sentry_json.specs.Nodes.{named_by}
use Rattle.sentry_rows.specs.Fields.{read_of}
use Rattle.sentry_rows.proofs.PassedRows.{map_absent, no_map, map_left, map_row, map_fails_at}
use Rattle.sentry_rows.proofs.pass_row.pass_map.Goals as goal

pub returns-in_default : goal.returns-in_default
returns-in_default g c =
    let is : get c.args.key.now (read_of g.N.Node.data_of c.args.from.now) ≡ None = search rules in
    map_absent _ _ _ _ is

pub returns-in_err-members : goal.returns-in_err-members
returns-in_err-members g c =
    let w = g.N.Node.data_of in
    let e = w c.in-Some.member.now in
    let is : get c.args.key.now (read_of w c.args.from.now) ≡ Some e = search rules in
    let h : Only c.in_err-members.field-0.0 (RowRefused c.args.key.now (default empty_map) (map g.X.Member.kind) (read_of w c.args.from.now)) = no_map _ _ _ e _ is c.in_err-members.ensures.err in
    search rules

pub returns-then-is_empty : goal.returns-then-is_empty
returns-then-is_empty g c =
    let w = g.N.Node.data_of in
    let e = w c.in-Some.member.now in
    let is : get c.args.key.now (read_of w c.args.from.now) ≡ Some e = search rules in
    let xs = c.in_ok-members.members.items in
    let at : as_object e ≡ Some (named_by w xs) = search rules in
    let none : length xs ≡ 0 = search rules in
    map_left w _ _ _ e xs _ is at none

pub returns-in_err-pass_members : goal.returns-in_err-pass_members
returns-in_err-pass_members g c =
    let w = g.N.Node.data_of in
    let e = w c.in-Some.member.now in
    let is : get c.args.key.now (read_of w c.args.from.now) ≡ Some e = search rules in
    let xs = c.deref.result.now in
    let at : as_object e ≡ Some (named_by w xs) = search rules in
    let h : Only c.in_err-pass_members.field-0.0 (RowRefused c.args.key.now (default empty_map) (map g.X.Member.kind) (read_of w c.args.from.now)) = map_fails_at _ _ _ e (named_by w xs) _ is at c.in_err-pass_members.ensures in
    search rules

pub returns : goal.returns
returns g c =
    let w = g.N.Node.data_of in
    let e = w c.in-Some.member.now in
    let is : get c.args.key.now (read_of w c.args.from.now) ≡ Some e = search rules in
    let xs = c.deref.result.now in
    let at : as_object e ≡ Some (named_by w xs) = search rules in
    let some : (length xs == 0) ≡ false = search rules in
    map_row w _ _ _ e xs _ _ _ _ _ is at some c.in_ok-key.ensures c.in_ok-begin_object.ensures c.in_ok-pass_members.ensures c.in_ok-end_object.ensures
