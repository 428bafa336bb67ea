-- The text of an envelope spells its normal form and nothing else.
use Rattle.std.proofs.Common.{◌≡◌, [], sym, ap, ap₂, ◌∙◌, subst}
use Rattle.serde_json.specs.Written.{compact_text}
use Rattle.sentry_tables.specs.Norm.{norm}
use Rattle.sentry_tables.specs.Written.{tree}
use Rattle.sentry_tables.specs.Laws.{TextShows}
use Rattle.sentry_tables.proofs.Laws.{has_laws}
use Rattle.sentry_envelope.specs.Profile.{Profile, ProfileLaws}
use Rattle.sentry_envelope.specs.Envelope.{Envelope, ItemsStand, first_id, items_text, envelope_text, items_norm, envelope_norm, IsEnvelopeStored, IsEnvelopePlain, IsEnvelopeReadable, IsEnvelopeSized}
use Rattle.sentry_envelope.specs.EnvelopeLaws.{EnvelopesReadBack}
use Rattle.sentry_framing.proofs.Written.{line_read}
use Rattle.sentry_framing.proofs.EnvelopeLine.{same_line}
use Rattle.sentry_envelope.proofs.EnvelopeIds.{ids_alike}
use Rattle.sentry_envelope.proofs.EnvelopeItems.{items_back, items_only}

pub envelopes_same : (d e : Envelope) → d.header ≡ e.header → d.items ≡ e.items → d ≡ e
envelopes_same d e headers items = ap₂ (λ h is. record { header = h; items = is }) headers items

module _ (P : Profile) (laws : ProfileLaws P) where
  pub back : EnvelopesReadBack P
  unfolding envelope_text envelope_norm IsEnvelopeStored IsEnvelopePlain IsEnvelopeReadable IsEnvelopeSized
  back e now s p r sized =
      let line = compact_text (tree P.header e.header) in
      let body = items_text P e.items in
      let written = line_read (tree P.header e.header) body in
      let (shown, shown_only) = (has_laws P.header laws.header).text_back e.header now s.0 p.0 r.0 r.1 in
      let ids = ids_alike P.header P.fill laws.unfilled P.types laws.types e.items s.1 p.1 in (
        record {
          line = line;
          body = body;
          shown = norm P.header e.header;
          parts = written;
          line_shows = shown;
          header = ap (λ id. P.fill id (norm P.header e.header)) (sym ids.0);
          items = items_back P laws now e.items s.1 p.1 r.2 sized;
        },
        λ x h.
            let (lines, bodies) = same_line (envelope_text P e) h.line h.body line body h.parts written in
            let header : h.shown ≡ norm P.header e.header = shown_only h.shown (subst (λ l. TextShows P.header now l h.shown) lines h.line_shows) in
            let items : x.items ≡ items_norm P.types e.items = items_only P laws now e.items s.1 p.1 r.2 sized x.items (subst (λ b. ItemsStand P now b x.items []) bodies h.items) in
            envelopes_same x (envelope_norm P e) (h.header ∙ ap₂ P.fill (ap (first_id P.types) items ∙ ids.0) header) items,
      )
