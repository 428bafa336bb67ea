use Rattle.std.proofs.Common.{◌≡◌, Some, false, rules}
use Rattle.std.specs.Prelude.{bytes_eq}
use Rattle.serde_json.specs.Data.{Data}
use Rattle.serde_json.specs.Find.{as_str, get}
use Rattle.sentry_rows.specs.Fields.{read_of}
use Rattle.sentry_rows.proofs.PassedRows.{text_other}
use Rattle.sentry_rows.proofs.pass_row.pass_text_or.Goals as goal

pub returns : goal.returns
returns g c =
    let d = read_of g.N.Node.data_of c.args.from.now in
    let e = g.N.Node.data_of c.in-Some.member.now in
    let t = c.in-Some-as_str.text.now in
    let is : get c.args.key.now d ≡ Some e = search rules in
    let spells : as_str e ≡ Some t = search rules in
    let other : bytes_eq t c.args.default.now ≡ false = search rules in
    text_other c.args.key.now c.args.default.now t d e _ _ _ is spells other c.in_ok-key.ensures c.in_ok-string.ensures
