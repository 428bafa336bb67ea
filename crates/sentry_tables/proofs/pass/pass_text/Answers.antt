use Rattle.std.proofs.Common.{◌≡◌, Some, rules}
use Rattle.serde_json.specs.Find.{as_str}
use Rattle.sentry_tables.proofs.Passing.{text_passed}
use Rattle.sentry_tables.proofs.pass.pass_text.Goals as goal

pub returns : goal.returns
returns g c =
    let is : as_str (g.N.Node.data_of c.args.node.now) ≡ Some c.in_ok-text.text.now = search rules in
    text_passed _ _ _ _ is c.in_ok-string.ensures
