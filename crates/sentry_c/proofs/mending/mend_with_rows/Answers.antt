use Rattle.std.proofs.Common.{◌≡◌, ◌∙◌, List, length, ap, refl, subst, to_z, of_z, w32}
use Rattle.sentry_moments.specs.Moments.{moment_cell}
use Rattle.sentry_envelope.specs.EnvelopeView.{text_of}
use Rattle.sentry_mending.specs.declared.mending.MendedItem.{MendedItem}
use Rattle.sentry_c.specs.Mending.{AddsNotes, noted}
use Rattle.sentry_c.specs.declared.mending.Notes.{Notes}
use Rattle.sentry_c.proofs.Rowed.{mended_as, mended_kept}
use Rattle.sentry_c.proofs.mending.mend_with_rows.Goals as goal

pub returns-clause-mended : goal.returns-clause-mended
returns-clause-mended c =
    let mended = c.in-Ok.mended in
    let made = c.in-Ok.ensures in
    let before : Notes = record { rows = c.new.result; count = 0; texts = c.in_ok-texts.texts } in
    let long : c.len-len.result ≡ length (text_of mended.envelope) = c.len-len.ensures ∙ (c.in_ok-texts.texts.ok.0 ∙ ap length c.in_ok-texts.ensures) in
    mended_as c.args.bytes.now (moment_cell c.args.now) c.args.rules c.args.most mended before
    (record { len = c.len-len.result; error = to_z w32 (of_z w32 c.status_of_mended.result); notes = c.push_items.new.notes })
    (record { in_order = made.in_order; spelled = made.spelled; each = made.mended; as_it_stands = made.as_it_stands; fails = made.fails }) c.in_ok-texts.ensures refl c.new.ensures.items
    (subst (λ (items : List MendedItem). AddsNotes c.args.most before c.push_items.new.notes (noted items)) c.deref.ensures.value c.in_ok-push_items.ensures) long
    (mended_kept mended.error _ c.status_of_mended.ensures)
