use Rattle.std.proofs.Common.{sym, subst, inl, inr}
use Rattle.std.proofs.lemmas.Result.{err_from_is_err_and}
use Rattle.sentry_envelope.specs.EnvelopeFault.{Fault}
use Rattle.sentry_envelope.specs.HeaderFields.{headers_cell}
use Rattle.sentry_moments.specs.Moments.{moment_cell}
use Rattle.sentry_envelope.specs.SentryProfile.{profile}
use Rattle.sentry_envelope.proofs.WholeReads.{line_at_fault, body_at_fault, whole_spelled, spelled_stored, spelled_rewritten}
use Rattle.sentry_envelope.proofs.envelope.Envelope.from_slice.Goals as goal

pub returns-in_err-read_header_line-clause-fault : goal.returns-in_err-read_header_line-clause-fault
returns-in_err-read_header_line-clause-fault g c =
    let p = err_from_is_err_and c.from_residual.result c.from_residual.ensures.1 in
    let line = c.new-frames.result.header_line in
    let err = rw c.header_line-line.ensures at c.in_err-read_header_line.ensures.err in
    rw (p.1, p.2) (λ ne. elim err [
      | inl is ↦ absurd (ne is)
      | inr refused ↦ subst (Fault profile c.args.bytes.now) (sym refused.0) (line_at_fault c.args.bytes.now line c.new-frames.result.rest c.new-frames.ensures refused.1)
    ])

pub returns-in_err-items-clause-fault : goal.returns-in_err-items-clause-fault
returns-in_err-items-clause-fault g c =
    let p = err_from_is_err_and c.from_residual-in_err-items.result c.from_residual-in_err-items.ensures.1 in
    let frames = c.new-frames.result in
    let shown = rw c.header_line-line.ensures at c.in_ok-read_header_line.ensures.ok in
    rw (p.1, p.2) (λ ne. body_at_fault c.args.bytes.now frames.header_line frames.rest c.new-frames.ensures (headers_cell c.read_header_line.new.headers) _ shown (c.in_err-items.ensures.err ne))

pub returns-clause-spelled : goal.returns-clause-spelled
returns-clause-spelled g c =
    let frames = c.new-frames.result in
    let shown = rw c.header_line-line.ensures at c.in_ok-read_header_line.ensures.ok in
    let filled = rw (c.first_id.ensures, c.deref.ensures.value) at c.fill.ensures in
    whole_spelled c.args.bytes.now frames.header_line frames.rest c.new-frames.ensures (moment_cell c.args.now) (headers_cell c.read_header_line.new.headers) (headers_cell c.fill.new.self) c.in_ok-items.items.items shown c.in_ok-items.ensures.ok filled

pub returns-clause-stored : goal.returns-clause-stored
returns-clause-stored g c =
    let frames = c.new-frames.result in
    let shown = rw c.header_line-line.ensures at c.in_ok-read_header_line.ensures.ok in
    let filled = rw (c.first_id.ensures, c.deref.ensures.value) at c.fill.ensures in
    spelled_stored c.args.bytes.now c.args.now _ (whole_spelled c.args.bytes.now frames.header_line frames.rest c.new-frames.ensures (moment_cell c.args.now) (headers_cell c.read_header_line.new.headers) (headers_cell c.fill.new.self) c.in_ok-items.items.items shown c.in_ok-items.ensures.ok filled)

pub returns-clause-rewritten : goal.returns-clause-rewritten
returns-clause-rewritten g c =
    let frames = c.new-frames.result in
    let shown = rw c.header_line-line.ensures at c.in_ok-read_header_line.ensures.ok in
    let filled = rw (c.first_id.ensures, c.deref.ensures.value) at c.fill.ensures in
    spelled_rewritten c.args.bytes.now c.args.now _ (whole_spelled c.args.bytes.now frames.header_line frames.rest c.new-frames.ensures (moment_cell c.args.now) (headers_cell c.read_header_line.new.headers) (headers_cell c.fill.new.self) c.in_ok-items.items.items shown c.in_ok-items.ensures.ok filled)
