use Rattle.std.proofs.Common.{sym, subst, inl, inr}
use Rattle.std.proofs.lemmas.Result.{err_from_is_err_and}
use Rattle.sentry_framing.specs.Framing.{IsFault}
use Rattle.sentry_framing.proofs.Opening.{refused_header}
use Rattle.sentry_forward.specs.AnyHeader.{any_reading}
use Rattle.sentry_forward.proofs.Readings.{reads, reads_none}
use Rattle.sentry_c.proofs.any_frames.first_any.Goals as goal

pub returns-in_err-header-clause-fault : goal.returns-in_err-header-clause-fault
returns-in_err-header-clause-fault c =
    let p = err_from_is_err_and c.from_residual.result c.from_residual.ensures.1 in
    rw (p.1, p.2) (λ _. c.in_err-header.ensures.fault any_reading)

pub returns-in_err-fields-clause-fault : goal.returns-in_err-fields-clause-fault
returns-in_err-fields-clause-fault c =
    let p = err_from_is_err_and c.from_residual-in_err-fields.result c.from_residual-in_err-fields.ensures.1 in
    let body = c.args.body.now in
    rw (p.1, p.2) (λ ne. elim c.in_err-fields.ensures.err [
      | inl is ↦ absurd (ne is)
      | inr h ↦ subst (IsFault any_reading body) (sym h.0) (refused_header any_reading body _ _ c.in_ok-header.ensures.found (reads_none _ h.1))
    ])

pub returns-in_err-frame-clause-fault : goal.returns-in_err-frame-clause-fault
returns-in_err-frame-clause-fault c =
    let p = err_from_is_err_and c.from_residual-in_err-frame.result c.from_residual-in_err-frame.ensures.1 in
    rw (p.1, p.2) (λ _. c.in_err-frame.ensures.fault any_reading _ c.in_ok-header.ensures.found (reads _ _ c.in_ok-fields.ensures.ok))

pub returns-clause-frame : goal.returns-clause-frame
returns-clause-frame c = c.in_ok-frame.ensures.frame any_reading _ c.in_ok-header.ensures.found (reads _ _ c.in_ok-fields.ensures.ok)
