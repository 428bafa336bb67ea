-- The event id of an envelope's header, given to an event without one.
use Rattle.std.specs.Prelude.{◌≡◌, ◌⊎◌, ℕ, List, [], ◌∷◌, ◌++◌, Some, IsSomeAnd, codes}
use Rattle.uuid.specs.Text.{lower, simple_text}
use Rattle.uuid.specs.declared.Uuid.{Uuid}
use Rattle.sentry_tables.specs.Cell.{Cell}
use Rattle.sentry_framing.specs.Framing.{IsLineAndBody}
use Rattle.sentry_envelope.specs.Envelope.{Spells}
use Rattle.sentry_envelope.specs.EnvelopeView.{structured, event_id_of}
use Rattle.sentry_envelope.specs.SentryProfile.{profile}
use Rattle.sentry_envelope.specs.declared.envelope.Envelope.{Envelope}
use Rattle.sentry_places.specs.declared.note.Note.{Note}
use Rattle.sentry_places.specs.declared.note.Repair.TheVariants.{HeaderId}

-- the header line states this id: the line by itself spells an envelope that has it
unfoldable pub StatesId : Cell → List ℕ → Uuid → Type 0
StatesId now bytes id =
    (line : List ℕ) × (body : List ℕ) × (e : Envelope) × IsLineAndBody bytes line body × IsSomeAnd (structured e) (Spells profile line now) × (event_id_of e ≡ Some id)

-- `"event_id":"`, the id, and `"`
abbrev pub id_member : Uuid → List ℕ
id_member id = codes "\"event_id\":\"" ++ (simple_text lower id ++ 34 ∷ [])

-- the member of an id, with a comma where others follow
abbrev pub IsIdMember : Uuid → List ℕ → Type 0
IsIdMember id text = (text ≡ id_member id) ⊎ (text ≡ id_member id ++ 44 ∷ [])

-- the note puts the member of the id that the header line states
unfoldable pub GivesId : Cell → List ℕ → Note → Type 0
GivesId now bytes n = (n.repair ≡ HeaderId) × (id : Uuid) × StatesId now bytes id × IsIdMember id n.instead.items
