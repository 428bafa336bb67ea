-- Envelopes of one item, and what refuses them.
use Rattle.std.specs.Prelude.{ℕ, List, [], ◌∷◌, ◌++◌, length}
use Rattle.std.specs.Fmt.{decimal}
use Rattle.sentry_tables.specs.Cell.{Cell}
use Rattle.sentry_envelope.specs.Profile.{Profile}
use Rattle.sentry_envelope.specs.Envelope.{Envelope, Spells}
use Rattle.sentry_envelope.specs.EnvelopeFault.{Fault}
use Rattle.sentry_framing.specs.declared.error.EnvelopeError.{EnvelopeError}

-- this is the first check of the bytes that fails
abbrev pub Fails : Profile → List ℕ → EnvelopeError → Type 0
Fails P bytes x = Fault P bytes x

-- the bytes read as an envelope
unfoldable pub Reads : Profile → Cell → List ℕ → Type 0
Reads P now bytes = (e : Envelope) × Spells P bytes now e

-- `{}`, NL, and the bytes of an item
abbrev pub alone : List ℕ → List ℕ
alone item = 123 ∷ 125 ∷ 10 ∷ item

-- `{"type":"`
abbrev pub before_word : List ℕ
before_word = 123 ∷ 34 ∷ 116 ∷ 121 ∷ 112 ∷ 101 ∷ 34 ∷ 58 ∷ 34 ∷ []

-- `","length":`
abbrev pub before_length : List ℕ
before_length = 34 ∷ 44 ∷ 34 ∷ 108 ∷ 101 ∷ 110 ∷ 103 ∷ 116 ∷ 104 ∷ 34 ∷ 58 ∷ []

-- an item of this type and payload, whose header states the payload's length
abbrev pub item_of : List ℕ → List ℕ → List ℕ
item_of word payload = before_word ++ (word ++ (before_length ++ (decimal (length payload) ++ (125 ∷ 10 ∷ payload))))

-- some check of an envelope of an item of this type and payload fails
unfoldable pub RefusesPayload : Profile → List ℕ → List ℕ → Type 0
RefusesPayload P word payload = (x : EnvelopeError) × Fails P (alone (item_of word payload)) x
