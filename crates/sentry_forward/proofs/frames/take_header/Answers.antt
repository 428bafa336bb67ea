use Rattle.std.proofs.Common.{◌∙◌, ap, sym, subst, inl, inr}
use Rattle.std.proofs.lemmas.Result.{err_from_is_err_and}
use Rattle.sentry_framing.specs.Framing.{IsFault}
use Rattle.sentry_framing.proofs.Opening.{refused_header}
use Rattle.sentry_forward.specs.AnyHeader.{any_header, any_reading}
use Rattle.sentry_forward.proofs.Left.{front_is, flat_opens}
use Rattle.sentry_forward.proofs.Readings.{reads_none}
use Rattle.sentry_forward.proofs.frames.take_header.Goals as goal

pub returns-in-Some-clause-found : goal.returns-in-Some-clause-found
returns-in-Some-clause-found c =
    let flat = c.in-Some.ensures in
    flat_opens c.args.body.now flat.0 c.in-Some.after.now flat.1 flat.2

pub returns-in-Some-clause-header : goal.returns-in-Some-clause-header
returns-in-Some-clause-header c =
    let flat = c.in-Some.ensures in
    ap any_header (front_is c.args.body.now flat.0 c.in-Some.after.now flat.1) ∙ flat.3

pub returns-in_err-header-clause-fault : goal.returns-in_err-header-clause-fault
returns-in_err-header-clause-fault c =
    let p = err_from_is_err_and c.from_residual.result c.from_residual.ensures.1 in
    rw (p.1, p.2) (λ _. c.in_err-header.ensures.fault any_reading)

pub returns-in_err-fields-clause-fault : goal.returns-in_err-fields-clause-fault
returns-in_err-fields-clause-fault c =
    let p = err_from_is_err_and c.from_residual-in_err-fields.result c.from_residual-in_err-fields.ensures.1 in
    let body = c.args.body.now in
    rw (p.1, p.2) (λ ne. elim c.in_err-fields.ensures.err [
      | inl is ↦ absurd (ne is)
      | inr h ↦ subst (IsFault any_reading body) (sym h.0) (refused_header any_reading body _ _ c.in_ok-header.ensures.found (reads_none _ h.1))
    ])
