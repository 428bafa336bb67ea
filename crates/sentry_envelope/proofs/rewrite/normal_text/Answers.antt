use Rattle.std.proofs.Common.{rules, ◌≡◌, [], Some, None, option_map, ap, sym, subst, inl, inr, ◌∙◌}
use Rattle.std.proofs.lemmas.Result.{err_from_is_err_and}
use Rattle.std.specs.Borrow.{Bor}
use Rattle.uuid.specs.declared.Uuid.{Uuid}
use Rattle.sentry_envelope.specs.EnvelopeFault.{Fault}
use Rattle.sentry_envelope.specs.HeaderFields.{headers_cell}
use Rattle.sentry_envelope.specs.NormalText.{AreItemsWritten}
use Rattle.sentry_envelope.specs.SentryProfile.{profile}
use Rattle.sentry_items.specs.Texts.{bytes_of}
use Rattle.sentry_moments.specs.Moments.{moment_cell}
use Rattle.sentry_envelope.proofs.Rewriting.{filled_normal, given_normal}
use Rattle.sentry_envelope.proofs.WholeReads.{line_at_fault, body_at_fault}
use Rattle.sentry_envelope.proofs.rewrite.normal_text.Goals as goal

pub returns-in_err-read_header_line-clause-fault : goal.returns-in_err-read_header_line-clause-fault
returns-in_err-read_header_line-clause-fault g c =
    let p = err_from_is_err_and c.from_residual.result c.from_residual.ensures.1 in
    let line = c.new-frames.result.header_line in
    let err = rw c.header_line-line.ensures at c.in_err-read_header_line.ensures.err in
    rw (p.1, p.2) (λ ne. elim err [
      | inl is ↦ absurd (ne is)
      | inr refused ↦ subst (Fault profile c.args.bytes.now) (sym refused.0) (line_at_fault c.args.bytes.now line c.new-frames.result.rest c.new-frames.ensures refused.1)
    ])

pub returns-in_err-write_items-clause-fault : goal.returns-in_err-write_items-clause-fault
returns-in_err-write_items-clause-fault g c =
    let p = err_from_is_err_and c.from_residual-in_err-write_items.result c.from_residual-in_err-write_items.ensures.1 in
    let frames = c.new-frames.result in
    let shown = rw c.header_line-line.ensures at c.in_ok-read_header_line.ensures.ok in
    rw (p.1, p.2) (λ ne. body_at_fault c.args.bytes.now frames.header_line frames.rest c.new-frames.ensures (headers_cell c.read_header_line.new.headers) _ shown (c.in_err-write_items.ensures.err ne))

pub returns-in_err-write_items-2-clause-fault : goal.returns-in_err-write_items-2-clause-fault
returns-in_err-write_items-2-clause-fault g c =
    let p = err_from_is_err_and c.from_residual-in_err-write_items-2.result c.from_residual-in_err-write_items-2.ensures.1 in
    let frames = c.new-frames.result in
    let shown = rw c.header_line-line.ensures at c.in_ok-read_header_line.ensures.ok in
    rw (p.1, p.2) (λ ne. body_at_fault c.args.bytes.now frames.header_line frames.rest c.new-frames.ensures (headers_cell c.read_header_line.new.headers) _ shown (c.in_err-write_items-2.ensures.err ne))

pub returns-in-Some-clause-normal : goal.returns-in-Some-clause-normal
returns-in-Some-clause-normal g c =
    let frames = c.new-frames.result in
    let shown = rw c.header_line-line.ensures at c.in_ok-read_header_line.ensures.ok in
    let there = sym c.event_id.ensures.id ∙ ap (option_map (λ (id : Bor Uuid). id.now)) c.in-Some.is in
    given_normal c.args.bytes.now frames.header_line frames.rest c.new-frames.ensures c.args.now c.read_header_line.new.headers shown c.in-Some.given.now there (Some c.in-Some.given.now) c.write_items.new.id
    (bytes_of c.new-text.result) (bytes_of c.write_items.new.text) c.in_ok-write_items.ensures.ok (λ both. c.new-text.ensures ∙ c.in_ok-begun.ensures both)

pub returns-clause-normal : goal.returns-clause-normal
returns-clause-normal g c =
    let frames = c.new-frames.result in
    let shown = rw c.header_line-line.ensures at c.in_ok-read_header_line.ensures.ok in
    let empty : c.in_ok-out.out.items ≡ [] = search rules in
    let none : bytes_of c.new-items.result ≡ [] = c.new-items.ensures ∙ empty in
    let written = subst (λ s. AreItemsWritten (moment_cell c.args.now) frames.rest [] None c.write_items-2.new.id s (bytes_of c.write_items-2.new.text)) none c.in_ok-write_items-2.ensures.ok in
    filled_normal c.args.bytes.now frames.header_line frames.rest c.new-frames.ensures c.args.now (headers_cell c.read_header_line.new.headers) shown (headers_cell c.fill.new.self) c.write_items-2.new.id
    c.in_ok-front.front.items (bytes_of c.write_items-2.new.text) (bytes_of c.put_before.new.self) written c.fill.ensures c.in_ok-front.ensures c.in_ok-put_before.ensures
