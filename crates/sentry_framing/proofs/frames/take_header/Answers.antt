use Rattle.std.proofs.Common.{sym, subst, inl, inr}
use Rattle.std.proofs.lemmas.Result.{err_from_is_err_and}
use Rattle.sentry_framing.specs.Framing.{IsFault}
use Rattle.sentry_framing.specs.ItemHeader.{stated_length}
use Rattle.sentry_framing.specs.ItemWords.{item_words}
use Rattle.sentry_framing.proofs.StatedLengths.{states_none}
use Rattle.sentry_framing.proofs.Opening.{refused_header}
use Rattle.sentry_framing.proofs.frames.take_header.Goals as goal

pub returns-in_err-header-clause-fault : goal.returns-in_err-header-clause-fault
returns-in_err-header-clause-fault c =
    let p = err_from_is_err_and c.from_residual.result c.from_residual.ensures.1 in
    rw (p.1, p.2) (λ _. c.in_err-header.ensures.fault (stated_length item_words))

pub returns-in_err-read_fields-clause-fault : goal.returns-in_err-read_fields-clause-fault
returns-in_err-read_fields-clause-fault c =
    let p = err_from_is_err_and c.from_residual-in_err-read_fields.result c.from_residual-in_err-read_fields.ensures.1 in
    let body = c.args.body.now in
    rw (p.1, p.2) (λ ne. elim c.in_err-read_fields.ensures.err [
      | inl is ↦ absurd (ne is)
      | inr h ↦ subst (IsFault (stated_length item_words) body) (sym h.0) (refused_header (stated_length item_words) body _ _ c.in_ok-header.ensures.found (states_none item_words _ h.1))
    ])
