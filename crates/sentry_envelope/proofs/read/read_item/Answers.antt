use Rattle.std.proofs.Common.{sym, subst, inl, inr}
use Rattle.std.proofs.lemmas.Result.{err_from_is_err_and}
use Rattle.sentry_moments.specs.Moments.{moment_cell}
use Rattle.sentry_framing.specs.Framing.{Frame}
use Rattle.sentry_framing.specs.HeaderView.{header_view}
use Rattle.sentry_envelope.specs.EnvelopeFault.{IsItemFault}
use Rattle.sentry_envelope.specs.SentryProfile.{profile}
use Rattle.sentry_envelope.proofs.FrameItems.{alone_met, alone_shown, header_at_fault, payload_at_fault, some_there}
use Rattle.sentry_envelope.proofs.read.read_item.Goals as goal

pub returns-in_err-fields-clause-fault : goal.returns-in_err-fields-clause-fault
returns-in_err-fields-clause-fault g c =
    let p = err_from_is_err_and c.from_residual.result c.from_residual.ensures.1 in
    let frame : Frame = record { header = c.args.header.now; payload = c.args.payload.now } in
    rw (p.1, p.2) (λ ne. elim c.in_err-fields.ensures.err [
      | inl is ↦ absurd (ne is)
      | inr refused ↦ subst (IsItemFault profile frame) (sym refused.0) (header_at_fault frame refused.1)
    ])

pub returns-in_err-add_item-clause-fault : goal.returns-in_err-add_item-clause-fault
returns-in_err-add_item-clause-fault g c =
    let p = err_from_is_err_and c.from_residual-in_err-add_item.result c.from_residual-in_err-add_item.ensures.1 in
    let frame : Frame = record { header = c.args.header.now; payload = c.args.payload.now } in
    rw (p.1, p.2) (λ ne. elim c.in_err-add_item.ensures.err [
      | inl is ↦ absurd (ne is)
      | inr refused ↦ subst (IsItemFault profile frame) (sym refused.0) (payload_at_fault frame (header_view c.in_ok-fields.fields) c.in_ok-fields.ensures.ok refused.1)
    ])

pub unwrap-requires : goal.unwrap-requires
unwrap-requires g c = c.pop.ensures.variant.1 (some_there _ _ c.add_item.new.items (rw c.in_ok-items.ensures.items at c.in_ok-add_item.ensures.ok))

pub returns-clause-shown : goal.returns-clause-shown
returns-clause-shown g c = alone_shown _ _ _ _ _ (rw c.in_ok-items.ensures.items at c.in_ok-add_item.ensures.ok) (rw c.unwrap.ensures at c.pop.ensures.items)

pub returns-clause-stored : goal.returns-clause-stored
returns-clause-stored g c =
    let frame : Frame = record { header = c.args.header.now; payload = c.args.payload.now } in
    alone_met c.args.now frame c.unwrap.result
    (alone_shown (moment_cell c.args.now) frame _ _ _ (rw c.in_ok-items.ensures.items at c.in_ok-add_item.ensures.ok) (rw c.unwrap.ensures at c.pop.ensures.items))
