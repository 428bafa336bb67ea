-- What is spelled is readable, but for depth.
use Rattle.std.specs.Prelude.{◌≤◌, List, ℕ, ⊤}
use Rattle.serde_json.specs.Data.{depth}
use Rattle.sentry_tables.specs.Cell.{Cell}
use Rattle.sentry_tables.specs.Lawful.{IsMoment}
use Rattle.sentry_tables.specs.Written.{tree}
use Rattle.sentry_envelope.specs.Profile.{Profile}
use Rattle.sentry_envelope.specs.Envelope.{Envelope, Spells, ContentDemand, ItemsMeet, IsEnvelopeReadable}

-- its JSON text nests at most 127 deep
abbrev pub shallow_content : ContentDemand
shallow_content = record { attached = λ a. ⊤; value = λ K c. depth (tree K c) ≤ 127 }

-- Each JSON line of its text nests at most 127 deep.
unfoldable pub IsEnvelopeShallow : Profile → Envelope → Type 0
IsEnvelopeShallow P e = (depth (tree P.header e.header) ≤ 127) × ItemsMeet shallow_content P.types e.items

-- What bytes spell is readable, where no JSON line of it nests deeper.
abbrev pub AcceptedIsReadable : Profile → Type 0
AcceptedIsReadable P = (bytes : List ℕ) (now : Cell) (e : Envelope) → IsMoment now → Spells P bytes now e → IsEnvelopeShallow P e → IsEnvelopeReadable P e
