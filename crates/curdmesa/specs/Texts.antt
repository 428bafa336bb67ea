-- Texts of envelopes that bytes spell.
use Rattle.std.specs.Prelude.{◌≡◌, ℕ, List}
use Rattle.sentry_tables.specs.Cell.{Cell}
use Rattle.sentry_envelope.specs.Envelope.{Envelope, Spells, envelope_text}
use Rattle.sentry_envelope.specs.SentryProfile.{profile}
use Rattle.sentry_places.specs.Spliced.{AreInOrder, spliced}
use Rattle.sentry_places.specs.declared.note.Note.{Note}

-- the text of an envelope that the bytes spell at the moment, with what some notes put there
pub record IsMendedText (bytes : List ℕ) (now : Cell) (text : List ℕ) : Type 0 where
  pub notes : List Note
  pub in_order : AreInOrder 0 notes bytes
  pub envelope : Envelope
  pub spells : Spells profile (spliced 0 notes bytes) now envelope
  pub text_is : text ≡ envelope_text profile envelope
