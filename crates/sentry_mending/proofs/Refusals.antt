-- Bytes that read, and bytes that don't, by what `from_slice` ensures.
use Rattle.std.proofs.Common.{◌≡◌, ℕ, List, Option, Some, None, IsSomeAnd}
use Rattle.sentry_tables.specs.Cell.{Cell}
use Rattle.sentry_envelope.specs.Profile.{Profile}
use Rattle.sentry_envelope.specs.Envelope.{Envelope, Spells}
use Rattle.sentry_framing.specs.declared.error.EnvelopeError.{EnvelopeError}
use Rattle.sentry_mending.specs.Alone.{Fails, Reads, RefusesPayload, alone, item_of}

pub reads_made : (P : Profile) (now : Cell) (bytes : List ℕ) (e : Option Envelope) → IsSomeAnd e (Spells P bytes now) → Reads P now bytes
unfolding Reads
reads_made P now bytes (Some e) spelled = (e, spelled)
reads_made P now bytes None spelled = absurd spelled

pub refused_made : (P : Profile) (word payload item : List ℕ) (x : EnvelopeError) → item ≡ item_of word payload → Fails P (alone item) x → RefusesPayload P word payload
unfolding RefusesPayload
refused_made P word payload item x is fails = (x, rw is at fails)
