use Rattle.std.proofs.Common.{ap, sym, subst, inl, inr, option_map}
use Rattle.std.proofs.lemmas.Result.{err_from_is_err_and}
use Rattle.sentry_items.specs.Texts.{bytes_of}
use Rattle.sentry_moments.specs.Moments.{moment_cell}
use Rattle.sentry_envelope.specs.EnvelopeFault.{Fault}
use Rattle.sentry_envelope.specs.FilteredText.{IsTextOfLeft}
use Rattle.sentry_envelope.specs.HeaderFields.{headers_cell}
use Rattle.sentry_envelope.specs.SentryProfile.{profile}
use Rattle.sentry_envelope.proofs.LeftItems.{filtered}
use Rattle.sentry_envelope.proofs.WholeReads.{line_at_fault, body_at_fault}
use Rattle.sentry_envelope.proofs.filtered.filtered_text.Goals as goal

pub returns-in_err-read_header_line-clause-fault : goal.returns-in_err-read_header_line-clause-fault
returns-in_err-read_header_line-clause-fault g c =
    let p = err_from_is_err_and c.from_residual.result c.from_residual.ensures.1 in
    let line = c.new-frames.result.header_line in
    let err = rw c.header_line-line.ensures at c.in_err-read_header_line.ensures.err in
    rw (p.1, p.2) (λ ne. elim err [
      | inl is ↦ absurd (ne is)
      | inr refused ↦ subst (Fault profile c.args.bytes.now) (sym refused.0) (line_at_fault c.args.bytes.now line c.new-frames.result.rest c.new-frames.ensures refused.1)
    ])

pub returns-in_err-left-clause-fault : goal.returns-in_err-left-clause-fault
returns-in_err-left-clause-fault g c =
    let p = err_from_is_err_and c.from_residual-in_err-left.result c.from_residual-in_err-left.ensures.1 in
    let frames = c.new-frames.result in
    let shown = rw c.header_line-line.ensures at c.in_ok-read_header_line.ensures.ok in
    rw (p.1, p.2) (λ ne. body_at_fault c.args.bytes.now frames.header_line frames.rest c.new-frames.ensures (headers_cell c.read_header_line.new.headers) _ shown (c.in_err-left.ensures.err ne))

pub returns-clause-left : goal.returns-clause-left
returns-clause-left g c =
    let frames = c.new-frames.result in
    let stays = g.K.KindChoice.stays c.args.choice.now in
    let shown = rw c.header_line-line.ensures at c.in_ok-read_header_line.ensures.ok in
    let filtered_by = filtered stays c.args.keep_headers c.args.bytes.now frames.header_line frames.rest c.new-frames.ensures c.args.now c.read_header_line.new.headers shown c.in_ok-left.left c.in_ok-left.ensures.ok _ c.in_ok-filtered.ensures.text in
    subst (λ l. IsTextOfLeft stays c.args.keep_headers c.args.bytes.now (moment_cell c.args.now) (option_map bytes_of c.in_ok-filtered.filtered.text) l) (sym (ap (λ v. v.items) c.in_ok-filtered.ensures.losses)) filtered_by
