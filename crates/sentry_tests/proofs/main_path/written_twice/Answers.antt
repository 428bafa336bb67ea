use Rattle.std.proofs.Common.{◌≡◌, ◌++◌, ℕ, List, ap, sym, subst, ◌∙◌}
use Rattle.std.specs.Prelude.{IfSome, IsSomeAnd}
use Rattle.sentry_tables.specs.Cell.{Cell}
use Rattle.sentry_moments.proofs.MomentRange.{moment_in_range}
use Rattle.sentry_moments.specs.Moments.{moment_cell}
use Rattle.sentry_moments.specs.declared.moment.Moment.{Moment}
use Rattle.sentry_envelope.specs.Envelope.{Envelope as Model, Spells, IsEnvelopeReadable, IsEnvelopeSized}
use Rattle.sentry_envelope.specs.EnvelopeView.{Held, items, bytes, header_of, held, structured_by, text_by}
use Rattle.sentry_envelope.specs.SentryProfile.{profile}
use Rattle.sentry_envelope.proofs.EnvelopeLaws.{envelope_laws}
use Rattle.sentry_envelope.proofs.SentryProfile.{profile_lawful}
use Rattle.sentry_tests.proofs.main_path.written_twice.Goals as goal

-- what is read and written, and then read and written again, has one text
one_text : (input : List ℕ) (now later : Moment) (h g : Cell) (x y : Held) (text same : List ℕ)
    → IsSomeAnd (structured_by h x) (Spells profile input (moment_cell now)) → IfSome (structured_by h x) (IsEnvelopeSized profile) → text ≡ text_by h x
    → IsSomeAnd (structured_by g y) (Spells profile text (moment_cell later)) → same ≡ text_by g y
    → ((e : Model) → Spells profile input (moment_cell now) e → IsEnvelopeReadable profile e) → text ≡ same
one_text input now later h g (items is) (items js) text same spelled sized written again rewritten readable =
    let e : Model = record { header = h; items = is } in
    let f : Model = record { header = g; items = js } in
    written ∙ sym ((envelope_laws profile profile_lawful).twice input (moment_cell now) (moment_cell later) e f (moment_in_range now) spelled (readable e spelled) sized (subst (λ t. Spells profile t (moment_cell later) f) written again)) ∙ sym rewritten
one_text input now later h g (items is) (bytes b) text same spelled sized written again rewritten readable = absurd again
one_text input now later h g (bytes b) y text same spelled sized written again rewritten readable = absurd spelled

pub returns : goal.returns
returns g c =
    let envelope = c.in_ok-envelope.envelope in
    let again = c.in_ok-again.again in
    let text = c.to_writer.new.writer.items in
    let same = c.to_writer-2.new.writer.items in
    let written = c.in_ok-to_writer.ensures.whole ∙ ap (λ t. t ++ text_by (header_of envelope) (held envelope)) c.new-text.ensures.items in
    let rewritten = c.in_ok-to_writer-2.ensures.whole ∙ ap (λ t. t ++ text_by (header_of again) (held again)) c.new-same.ensures.items in
    one_text c.args.bytes.now c.args.now c.args.later (header_of envelope) (header_of again) (held envelope) (held again) text same
    c.in_ok-envelope.ensures.spelled c.in_ok-to_writer.ensures.sized written (rw c.deref.ensures.value at c.in_ok-again.ensures.spelled) rewritten
