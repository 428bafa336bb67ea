-- Ids that a header line states, and notes that put them.
use Rattle.std.proofs.Common.{◌≡◌, ℕ, List, Option, Some, None, IfSome, IsSomeAnd, sym}
use Rattle.uuid.specs.declared.Uuid.{Uuid}
use Rattle.sentry_tables.specs.Cell.{Cell}
use Rattle.sentry_framing.specs.Framing.{IsLineAndBody}
use Rattle.sentry_envelope.specs.Envelope.{Spells}
use Rattle.sentry_envelope.specs.EnvelopeView.{structured, event_id_of}
use Rattle.sentry_envelope.specs.SentryProfile.{profile}
use Rattle.sentry_envelope.specs.declared.envelope.Envelope.{Envelope}
use Rattle.sentry_places.specs.declared.note.Note.{Note}
use Rattle.sentry_places.specs.declared.note.Repair.TheVariants.{HeaderId}
use Rattle.sentry_mending.specs.HeaderIds.{StatesId, GivesId, IsIdMember}

pub id_stated : (now : Cell) (bytes line body : List ℕ) (e : Envelope) (o : Option Uuid) → IsLineAndBody bytes line body → IsSomeAnd (structured e) (Spells profile line now) → o ≡ event_id_of e → IfSome o (StatesId now bytes)
unfolding StatesId
id_stated now bytes line body e (Some id) parts spelled is = (line, body, e, parts, spelled, sym is)
id_stated now bytes line body e None parts spelled is = tt

pub id_given : (now : Cell) (bytes : List ℕ) (n : Note) (id : Uuid) → n.repair ≡ HeaderId → StatesId now bytes id → IsIdMember id n.instead.items → GivesId now bytes n
unfolding GivesId
id_given now bytes n id is stated put = (is, id, stated, put)
