-- Envelopes made anew: the same, or their normal form.
use Rattle.std.specs.Prelude.{◌≡◌, ℕ, List, Bool, true, false}
use Rattle.sentry_tables.specs.declared.way.Way.{Way}
use Rattle.sentry_tables.specs.declared.way.Way.TheVariants.{Same, Normal}
use Rattle.sentry_tables.specs.Cell.{Cell}
use Rattle.sentry_tables.specs.Norm.{norm}
use Rattle.sentry_envelope.specs.Envelope.{Item, item, raw, Envelope as Model, Spells, first_id, items_norm, envelope_norm, IsEnvelopeStored, IsEnvelopePlain}
use Rattle.sentry_envelope.specs.EnvelopeView.{Held, items, bytes, held, header_of}
use Rattle.sentry_envelope.specs.HeaderFields.{header_kind, fill_id}
use Rattle.sentry_envelope.specs.Profile.{Profile}
use Rattle.sentry_envelope.specs.SentryProfile.{item_types}
use Rattle.sentry_envelope.specs.declared.envelope.Envelope.{Envelope}

-- an item stands in what is made: a raw one, which isn't written, in no normal form
unfoldable pub stands : Way → Item → Bool
stands Same i = true
stands (Normal alloc) (item n c) = true
stands (Normal alloc) raw = false

unfoldable pub items_made : Way → List Item → List Item
items_made Same is = is
items_made (Normal alloc) is = items_norm item_types is

-- the header above these items
unfoldable pub header_made : Way → Cell → List Item → Cell
header_made Same h is = h
header_made (Normal alloc) h is = fill_id (first_id item_types is) (norm header_kind h)

-- of a structured envelope; a raw one has no other form
abbrev pub IsMadeBy : Way → Cell → Held → Envelope → Type 0
IsMadeBy way h (items is) made = (header_of made ≡ header_made way h is) × (held made ≡ items (items_made way is))
IsMadeBy way h (bytes b) made = (header_of made ≡ h) × (held made ≡ bytes b)

abbrev pub IsMade : Way → Envelope → Envelope → Type 0
IsMade way e made = IsMadeBy way (header_of e) (held e) made

-- what is stored, plain and its own normal form
pub record IsNormalForm (P : Profile) (e : Model) : Type 0 where
  pub stored : IsEnvelopeStored P e
  pub plain : IsEnvelopePlain P e
  pub own : envelope_norm P e ≡ e

-- at every moment the bytes spell this envelope, and nothing else
pub record SpellsAlone (P : Profile) (text : List ℕ) (e : Model) : Type 0 where
  pub spells : (now : Cell) → Spells P text now e
  pub only : (now : Cell) (x : Model) → Spells P text now x → x ≡ e
