use Rattle.sentry_json.proofs.Escapes.{unit_of}
use Rattle.sentry_json.proofs.tape.escape.split_unit.Goals as goal

pub returns-clause-unit : goal.returns-clause-unit
returns-clause-unit c =
    let s = c.in_ok-digits in
    unit_of c.args.text.text.now c.as_bytes-digits.result.now s.rest.text.now c.in_ok-a.a c.in_ok-b.b c.in_ok-c.c c.in_ok-d.d (rw c.as_bytes-digits.ensures.value s.ensures.parts) (rw c.as_bytes-digits.ensures.value s.ensures.len)
    c.in_ok-a.ensures c.in_ok-b.ensures c.in_ok-c.ensures c.in_ok-d.ensures
