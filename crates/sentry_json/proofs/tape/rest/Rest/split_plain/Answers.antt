use Rattle.sentry_json.proofs.PlainTexts.{plain_quoted}
use Rattle.sentry_json.proofs.tape.rest.Rest.split_plain.Goals as goal

pub returns-clause-quoted : goal.returns-clause-quoted
returns-clause-quoted c =
    let inside = c.in_ok-after.field-0.text.now in
    let (text, stop) = c.split_run.result in
    (inside, c.in_ok-after.ensures, plain_quoted inside text.now stop.text.now c.in_ok-rest.rest.text.now c.split_run.ensures.parts c.in_ok-rest.ensures c.split_run.ensures.plain)
