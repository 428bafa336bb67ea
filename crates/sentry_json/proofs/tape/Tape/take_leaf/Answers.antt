use Rattle.std.proofs.lemmas.Option.{IfSome_then}
use Rattle.sentry_json.proofs.WordsAndTexts.{string_spelled, text_spelled}
use Rattle.sentry_json.proofs.tape.Tape.take_leaf.Goals as goal

pub returns-in-Some-clause-spelled : goal.returns-in-Some-clause-spelled
returns-in-Some-clause-spelled g c =
    let text = c.args.text.text.now in
    let inside = c.in-Some.inside.text.now in
    IfSome_then c.take_escaped.result c.take_escaped.ensures.spelled (λ rest q. (q.0, q.3, text_spelled text rest.text.now q.0 0 (string_spelled text inside rest.text.now q.1 q.0 c.in-Some.ensures q.2 q.4)))

pub returns-in-Some-clause-string : goal.returns-in-Some-clause-string
returns-in-Some-clause-string g c =
    let text = c.args.text.text.now in
    let inside = c.in-Some.inside.text.now in
    IfSome_then c.take_escaped.result c.take_escaped.ensures.spelled (λ rest q due. (q.0, q.3, string_spelled text inside rest.text.now q.1 q.0 c.in-Some.ensures q.2 q.4))
