use Rattle.std.proofs.Common.{rules, ◌≡◌, string_bytes, subst, sym}
use Rattle.sentry_json.specs.Spelled.{BeginsString}
use Rattle.sentry_json.proofs.WordsAndTexts.{string_begins}
use Rattle.sentry_json.proofs.tape.tree.split_key.Goals as goal

pub returns-in-Some-clause-spelled : goal.returns-in-Some-clause-spelled
returns-in-Some-clause-spelled c =
    let text = c.args.text.text.now in
    let plain = c.in-Some in
    let q = plain.ensures.quoted in
    let copied : string_bytes c.in-Ok.key ≡ plain.string.now = search rules in
    subst (BeginsString text plain.rest.text.now) (sym copied) (string_begins text q.0 plain.rest.text.now plain.string.now q.1 q.2)

pub returns-clause-spelled : goal.returns-clause-spelled
returns-clause-spelled c =
    let text = c.args.text.text.now in
    let s = c.in_ok-string in
    let copied : string_bytes c.in-Ok-from_str.key ≡ string_bytes s.string = search rules in
    subst (BeginsString text s.rest.text.now) (sym copied) (string_begins text c.in_ok-after.field-0.text.now s.rest.text.now (string_bytes s.string) c.in_ok-after.ensures s.ensures.quoted)
