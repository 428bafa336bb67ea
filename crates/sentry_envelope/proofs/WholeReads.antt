-- What a whole reading knows: of the header line, and of the items.
use Rattle.std.proofs.Common.{◌≡◌, ℕ, List, [], refl, sym, ap, ◌∙◌, inl, inr, arith}
use Rattle.std.specs.Prelude.{map}
use Rattle.sentry_tables.specs.Cell.{Cell}
use Rattle.sentry_items.specs.declared.item.EnvelopeItem.{EnvelopeItem}
use Rattle.sentry_framing.specs.Framing.{IsLineAndBody}
use Rattle.sentry_envelope.specs.Envelope.{Envelope, ItemsStand, Spells, envelope_text, envelope_norm, IsEnvelopeStored, IsEnvelopePlain}
use Rattle.sentry_envelope.specs.EnvelopeFault.{BodyIsAtFault, Fault}
use Rattle.sentry_envelope.specs.EnvelopeView.{item_view}
use Rattle.sentry_moments.specs.Moments.{moment_cell}
use Rattle.sentry_envelope.specs.HeaderFields.{header_kind, fill_id, given_id}
use Rattle.sentry_envelope.specs.Filter.{first_id_of}
use Rattle.sentry_tables.specs.Reading.{TextShown, TextRefused}
use Rattle.sentry_envelope.specs.SentryProfile.{profile}
use Rattle.sentry_framing.specs.declared.error.EnvelopeError.{EnvelopeError}
use Rattle.sentry_framing.specs.declared.error.EnvelopeError.TheVariants.{InvalidHeader}
use Rattle.sentry_moments.specs.declared.moment.Moment.{Moment}
use Rattle.sentry_envelope.proofs.EnvelopeLaws.{envelope_laws}
use Rattle.sentry_envelope.proofs.ItemIds.{first_given}
use Rattle.sentry_envelope.proofs.SentryProfile.{profile_lawful}

module _ (bytes line body : List ℕ) (parts : IsLineAndBody bytes line body) where
  pub line_at_fault : TextRefused header_kind line → Fault profile bytes InvalidHeader
  unfolding profile TextRefused
  line_at_fault refused = record { line = line; body = body; parts = parts; first = inl (refl, refused) }

  pub body_at_fault : (c : Cell) (x : EnvelopeError) → TextShown header_kind line c → BodyIsAtFault profile body x → Fault profile bytes x
  unfolding profile TextShown
  body_at_fault c x shown fault = record { line = line; body = body; parts = parts; first = inr ((λ now. (c, shown now)), fault) }

  -- the header is filled by the first id among the items
  pub whole_spelled : (now c h : Cell) (items : List EnvelopeItem) → TextShown header_kind line c → ItemsStand profile now body (map item_view items) [] → h ≡ fill_id (given_id (first_id_of items)) c
      → Spells profile bytes now (record { header = h; items = map item_view items })
  unfolding profile TextShown
  whole_spelled now c h items shown stand filled = record {
    line = line;
    body = body;
    shown = c;
    parts = parts;
    line_shows = shown now;
    header = filled ∙ ap (λ id. fill_id id c) (sym (first_given items));
    items = stand;
  }

-- what bytes spell is stored and plain, and is written as its normal form is
module _ (bytes : List ℕ) (now : Moment) (e : Envelope) (spells : Spells profile bytes (moment_cell now) e) where
  abbrev own : IsEnvelopeStored profile e × IsEnvelopePlain profile e × (envelope_text profile e ≡ envelope_text profile (envelope_norm profile e))
  own = (envelope_laws profile profile_lawful).rewritten bytes (moment_cell now) e (omega (arith, now.secs_in_range), now.nanos_in_range) spells

  pub spelled_stored : IsEnvelopeStored profile e × IsEnvelopePlain profile e
  spelled_stored = (own.0, own.1)

  pub spelled_rewritten : envelope_text profile e ≡ envelope_text profile (envelope_norm profile e)
  spelled_rewritten = own.2
