-- Texts of envelopes that bytes spell.
use Rattle.std.proofs.Common.{◌≡◌, ℕ, List}
use Rattle.std.specs.Option.{IsSomeAnd}
use Rattle.sentry_tables.specs.Cell.{Cell}
use Rattle.sentry_envelope.specs.Envelope.{Spells}
use Rattle.sentry_envelope.specs.EnvelopeView.{Held, items as held_items, bytes as held_bytes, header_of, held, structured, structured_by, text_by, text_of}
use Rattle.sentry_envelope.specs.SentryProfile.{profile}
use Rattle.sentry_envelope.specs.declared.envelope.Envelope.{Envelope}
use Rattle.sentry_places.specs.Spliced.{AreInOrder, spliced}
use Rattle.sentry_places.specs.declared.note.Note.{Note}
use Rattle.curdmesa.specs.Texts.{IsMendedText}

pub mended_text : (bytes text : List ℕ) (now : Cell) (envelope : Envelope) (notes : List Note) → AreInOrder 0 notes bytes → IsSomeAnd (structured envelope) (Spells profile (spliced 0 notes bytes) now) → text ≡ text_of envelope → IsMendedText bytes now text
mended_text bytes text now envelope notes in_order spelled is = go (held envelope) spelled is
  where
    go : (h : Held) → IsSomeAnd (structured_by (header_of envelope) h) (Spells profile (spliced 0 notes bytes) now) → text ≡ text_by (header_of envelope) h → IsMendedText bytes now text
    go (held_items is) spelled same = record { notes = notes; in_order = in_order; envelope = record { header = header_of envelope; items = is }; spells = spelled; text_is = same }
    go (held_bytes b) spelled same = absurd spelled
