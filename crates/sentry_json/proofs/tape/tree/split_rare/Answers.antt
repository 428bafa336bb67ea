use Rattle.std.proofs.Common.{rules, ◌≡◌, string_bytes}
use Rattle.serde_json.specs.Data.{string}
use Rattle.serde_json.specs.View.{view}
use Rattle.sentry_json.proofs.WordsAndTexts.{string_tree}
use Rattle.sentry_json.proofs.tape.tree.split_rare.Goals as goal

pub returns-in-Some-clause-spelled : goal.returns-in-Some-clause-spelled
returns-in-Some-clause-spelled c =
    let s = c.in_ok-string in
    let same : view c.in-Ok.value ≡ string (string_bytes s.string) = search rules in
    string_tree c.args.text.text.now c.in-Some.inside.text.now s.rest.text.now (string_bytes s.string) (view c.in-Ok.value) 0 c.in-Some.ensures s.ensures.quoted same
