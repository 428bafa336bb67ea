-- What is spelled is readable, but for depth.
use Rattle.std.proofs.Common.{ℕ, zero, suc, List, [], ◌∷◌, sym, subst}
use Rattle.sentry_tables.specs.Cell.{Cell}
use Rattle.sentry_tables.specs.Kind.{Kind}
use Rattle.sentry_tables.specs.Lawful.{IsMoment}
use Rattle.sentry_tables.specs.Meets.{IsReadable}
use Rattle.sentry_tables.proofs.Laws.{has_laws}
use Rattle.sentry_framing.specs.ItemHeader.{Header}
use Rattle.sentry_envelope.specs.Profile.{Form, attachment_form, opaque_form, json_form, container_form, ItemType, Profile, FormIsLawful, TypesAreLawful, ProfileLaws}
use Rattle.sentry_items.specs.Containers.{container_kind}
use Rattle.sentry_envelope.specs.Envelope.{Content, attached, opaque, value, Item, item, raw, ContentShows, ContentShowsAt, ItemsStand, readable_content, ContentMeets, ContentMeetsAt, ItemsMeet, IsEnvelopeReadable}
use Rattle.sentry_envelope.specs.Accepted.{shallow_content, IsEnvelopeShallow, AcceptedIsReadable}
use Rattle.sentry_envelope.proofs.EnvelopeForms.{items_rewritten}
use Rattle.sentry_envelope.proofs.EnvelopeIds.{ids_alike}
use Rattle.sentry_items.proofs.Containers.{container_lawful}

-- ---- contents, of a form and at a place

module _ (now : Cell) (moment : IsMoment now) where
  content_readable : (f : Form) → FormIsLawful f → (h : Header) (payload : List ℕ) (c : Content) → ContentShows f now h payload c → ContentMeets shallow_content f c → ContentMeets readable_content f c
  content_readable attachment_form lawful h payload (attached a) shows shallow = tt
  content_readable attachment_form lawful h payload _ shows shallow = absurd shallow
  content_readable opaque_form lawful h payload (opaque b) shows shallow = tt
  content_readable opaque_form lawful h payload _ shows shallow = absurd shallow
  content_readable (json_form K) lawful h payload (value c) shows shallow = ((has_laws K lawful).text_shown_readable payload c now moment shows, shallow)
  content_readable (json_form K) lawful h payload _ shows shallow = absurd shallow
  content_readable (container_form content_type K) lawful h payload (value c) shows shallow =
      ((has_laws (container_kind K) (container_lawful K lawful.0)).text_shown_readable payload c now moment shows, shallow)
  content_readable (container_form content_type K) lawful h payload _ shows shallow = absurd shallow

  content_readable_at : (H : Kind) (fill : Cell → Cell → Cell) (ts : List ItemType) → TypesAreLawful H fill ts → (n : ℕ) (h : Header) (payload : List ℕ) (c : Content)
      → ContentShowsAt ts n now h payload c → ContentMeetsAt shallow_content ts n c → ContentMeetsAt readable_content ts n c
  content_readable_at H fill [] lawful n h payload c shows shallow = absurd shallow
  content_readable_at H fill (t ∷ ts) lawful zero h payload c shows shallow = content_readable t.form lawful.2 h payload c shows shallow
  content_readable_at H fill (t ∷ ts) lawful (suc n) h payload c shows shallow = content_readable_at H fill ts lawful.4 n h payload c shows shallow

-- ---- items, and envelopes

module _ (P : Profile) (laws : ProfileLaws P) where
  items_readable : (now : Cell) → IsMoment now → (items : List Item) (body : List ℕ) → ItemsStand P now body items [] → ItemsMeet shallow_content P.types items → ItemsMeet readable_content P.types items
  items_readable now moment [] body stand shallow = tt
  items_readable now moment (item n c ∷ items) body (f, next, first, (h, read, kind, shows), more) shallow =
      (content_readable_at now moment P.header P.fill P.types laws.types n h f.payload c shows shallow.0, items_readable now moment items next more shallow.1)
  items_readable now moment (raw ∷ items) body (f, next, first, shows, more) shallow = absurd shows

  pub accepted_is_readable : AcceptedIsReadable P
  unfolding IsEnvelopeReadable IsEnvelopeShallow
  accepted_is_readable bytes now e moment h shallow =
      let items = items_rewritten P laws now moment e.items h.body h.items in
      let fills = (ids_alike P.header P.fill laws.unfilled P.types laws.types e.items items.stored items.plain).1 in
      let shown = (has_laws P.header laws.header).text_shown_readable h.line h.shown now moment h.line_shows in (
        subst (IsReadable P.header) (sym h.header) (fills.fill_readable h.shown shown),
        shallow.0,
        items_readable now moment e.items h.body h.items shallow.1,
      )
