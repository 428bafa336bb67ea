use Rattle.std.proofs.lemmas.List.{take_rest}
use Rattle.sentry_forward.proofs.FlatHeaders.{number_begins, string_begins}
use Rattle.sentry_forward.proofs.flat.after_scalar.Goals as goal

pub returns-in-Some : goal.returns-in-Some
returns-in-Some c = string_begins c.args.bytes.now _ c.in-Some.rest.now c.in-Some.ensures.text c.in-Some.ensures.plain c.in-Some.ensures.ascii

pub returns : goal.returns
returns c = number_begins c.args.bytes.now _ _ c.in_ok-len.len c.in_ok-len.ensures (take_rest c.args.bytes.now c.in_ok-len.len)
