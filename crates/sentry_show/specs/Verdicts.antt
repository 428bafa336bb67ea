-- Which bytes are accepted as an envelope, and which frames as an item.
use Rattle.std.specs.Prelude.{ℕ, List}
use Rattle.sentry_tables.specs.Cell.{Cell}
use Rattle.sentry_framing.specs.Framing.{Frame}
use Rattle.sentry_envelope.specs.Envelope.{Item, ItemShows}
use Rattle.sentry_envelope.specs.SentryProfile.{profile}
use Rattle.sentry_mending.specs.Alone.{Reads}

-- the bytes read as an envelope at some moment
abbrev pub IsAccepted : List ℕ → Type 0
IsAccepted bytes = (now : Cell) × Reads profile now bytes

-- the frame reads as an item at some moment
abbrev pub IsRead : Frame → Type 0
IsRead frame = (now : Cell) × (item : Item) × ItemShows profile now frame item
