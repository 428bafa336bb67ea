use Rattle.std.proofs.Common.{sym, subst, inl, inr}
use Rattle.std.proofs.lemmas.Result.{err_from_is_err_and}
use Rattle.sentry_framing.specs.Framing.{IsFault}
use Rattle.sentry_framing.proofs.Faults.{header_fault, short_fault, payload_fault, first_frame}
use Rattle.sentry_framing.proofs.frames.end_frame.Goals as goal

pub returns-in_err-left-clause-fault : goal.returns-in_err-left-clause-fault
returns-in_err-left-clause-fault c =
    let p = err_from_is_err_and c.from_residual.result c.from_residual.ensures.1 in
    let h = c.in_err-left.ensures.missing in
    rw (p.1, p.2) (λ reads body opens accepted. subst (IsFault reads body) (sym h.0) (inl (header_fault reads body c.args.header.now _ opens _ accepted h.1)))

pub returns-in_err-payload-clause-fault : goal.returns-in_err-payload-clause-fault
returns-in_err-payload-clause-fault c =
    let p = err_from_is_err_and c.from_residual-in_err-payload.result c.from_residual-in_err-payload.ensures.1 in
    let h = c.in_err-payload.ensures.short in
    rw (p.1, p.2) (λ reads body opens accepted. subst (IsFault reads body) (sym h.0) (inr (short_fault reads body c.args.header.now _ _ opens c.in_ok-left.ensures.found _ h.1.0 accepted h.1.1 h.1.2)))

pub returns-in_err-rest-clause-fault : goal.returns-in_err-rest-clause-fault
returns-in_err-rest-clause-fault c =
    let p = err_from_is_err_and c.from_residual-in_err-rest.result c.from_residual-in_err-rest.ensures.1 in
    let h = c.in_err-rest.ensures.missing in
    rw (p.1, p.2) (λ reads body opens accepted. subst (IsFault reads body) (sym h.0) (inr (payload_fault reads body c.args.header.now _ _ opens c.in_ok-left.ensures.found _ c.in_ok-payload.payload.now c.in_ok-payload.tail.now accepted c.in_ok-payload.ensures.found h.1)))

pub returns-clause-frame : goal.returns-clause-frame
returns-clause-frame c = λ reads body opens accepted.
    first_frame reads body c.args.header.now _ _ opens c.in_ok-left.ensures.found _ c.in_ok-payload.payload.now c.in_ok-payload.tail.now c.in_ok-rest.rest.now accepted c.in_ok-payload.ensures.found c.in_ok-rest.ensures.found
