-- The laws of envelopes.
use Rattle.std.specs.Prelude.{◌≡◌, ◌⊎◌, ◌↔◌, ◌<◌, ◌^◌, ℕ, List, length}
use Rattle.sentry_tables.specs.Cell.{Cell}
use Rattle.sentry_tables.specs.Lawful.{IsMoment}
use Rattle.sentry_envelope.specs.Profile.{Profile}
use Rattle.sentry_envelope.specs.Envelope.{Envelope, Spells, envelope_text, envelope_norm, IsEnvelopeStored, IsEnvelopePlain, IsEnvelopeReadable, IsEnvelopeSized}
use Rattle.sentry_envelope.specs.EnvelopeFault.{Fault}
use Rattle.sentry_framing.specs.declared.error.EnvelopeError.{EnvelopeError}

-- some envelope is spelled, and no error is at fault
abbrev pub IsSpelled : Profile → List ℕ → Cell → Type 0
IsSpelled P bytes now = ((e : Envelope) × Spells P bytes now e) × ((x : EnvelopeError) → Fault P bytes x → ⊥)

-- one error is at fault and no other, and no envelope is spelled
pub record IsFaulty (P : Profile) (bytes : List ℕ) (now : Cell) : Type 0 where
  pub error : EnvelopeError
  pub holds : Fault P bytes error
  pub only : (x : EnvelopeError) → Fault P bytes x → x ≡ error
  pub unspelled : (e : Envelope) → Spells P bytes now e → ⊥

-- For each byte list exactly one holds: some envelope is spelled, or one error is at fault.
abbrev pub HasOneAnswer : Profile → Type 0
HasOneAnswer P = (bytes : List ℕ) (now : Cell) → IsSpelled P bytes now ⊎ IsFaulty P bytes now

-- At every moment the text of an envelope spells its normal form, and nothing else.
abbrev pub EnvelopesReadBack : Profile → Type 0
EnvelopesReadBack P = (e : Envelope) (now : Cell) → IsEnvelopeStored P e → IsEnvelopePlain P e → IsEnvelopeReadable P e → IsEnvelopeSized P e
    → Spells P (envelope_text P e) now (envelope_norm P e) × ((x : Envelope) → Spells P (envelope_text P e) now x → x ≡ envelope_norm P e)

-- The normal form is its own normal form, is stored and plain, and is readable where the envelope
-- is.
pub record IsEnvelopeStable (P : Profile) (e : Envelope) : Type 0 where
  pub again : envelope_norm P (envelope_norm P e) ≡ envelope_norm P e
  pub stored : IsEnvelopeStored P (envelope_norm P e)
  pub plain : IsEnvelopePlain P (envelope_norm P e)
  pub readable : IsEnvelopeReadable P e → IsEnvelopeReadable P (envelope_norm P e)

abbrev pub EnvelopesAreStable : Profile → Type 0
EnvelopesAreStable P = (e : Envelope) → IsEnvelopeStored P e → IsEnvelopePlain P e → IsEnvelopeStable P e

-- An envelope that reads back, and whose normal form does: *stored*, *plain* and *readable* are
-- asked of it (its normal form then has them too, by `stable`), *sized* of the normal form, which
-- is what is written.
pub record IsFit (P : Profile) (e : Envelope) : Type 0 where
  pub stored : IsEnvelopeStored P e
  pub plain : IsEnvelopePlain P e
  pub readable : IsEnvelopeReadable P e
  pub sized : IsEnvelopeSized P (envelope_norm P e)

-- Two envelopes share the normal form exactly where their normal forms have one text.
abbrev pub EnvelopesHaveOneForm : Profile → Type 0
EnvelopesHaveOneForm P = (a b : Envelope) → IsFit P a → IsFit P b → (envelope_norm P a ≡ envelope_norm P b) ↔ (envelope_text P (envelope_norm P a) ≡ envelope_text P (envelope_norm P b))

-- What bytes spell is stored and plain, and is written as its normal form is.
abbrev pub EnvelopesAreRewritten : Profile → Type 0
EnvelopesAreRewritten P = (bytes : List ℕ) (now : Cell) (e : Envelope) → IsMoment now → Spells P bytes now e
    → IsEnvelopeStored P e × IsEnvelopePlain P e × (envelope_text P e ≡ envelope_text P (envelope_norm P e))

-- So reading what is rewritten, and writing again, gives the same bytes.
abbrev pub RewritingTwiceIsOnce : Profile → Type 0
RewritingTwiceIsOnce P = (bytes : List ℕ) (now later : Cell) (e f : Envelope) → IsMoment now → Spells P bytes now e → IsEnvelopeReadable P e → IsEnvelopeSized P e
    → Spells P (envelope_text P e) later f → envelope_text P f ≡ envelope_text P e

-- An envelope whose text has fewer than 2^64 bytes, as any in a machine's memory has, is sized.
abbrev pub ShortTextsAreSized : Profile → Type 0
ShortTextsAreSized P = (e : Envelope) → IsEnvelopeStored P e → length (envelope_text P e) < 2 ^ 64 → IsEnvelopeSized P e

-- The normal form of what bytes spell is sized where that is.
abbrev pub NormalFormsAreSized : Profile → Type 0
NormalFormsAreSized P = (bytes : List ℕ) (now : Cell) (e : Envelope) → IsMoment now → Spells P bytes now e → IsEnvelopeSized P e → IsEnvelopeSized P (envelope_norm P e)

-- So two envelopes that bytes spell share the normal form exactly where they are written alike.
abbrev pub SpelledHaveOneForm : Profile → Type 0
SpelledHaveOneForm P = (bytes others : List ℕ) (now later : Cell) (a b : Envelope) → IsMoment now → IsMoment later → Spells P bytes now a → Spells P others later b
    → IsEnvelopeReadable P a → IsEnvelopeReadable P b → IsEnvelopeSized P a → IsEnvelopeSized P b
    → (envelope_norm P a ≡ envelope_norm P b) ↔ (envelope_text P a ≡ envelope_text P b)

pub record EnvelopeLaws (P : Profile) : Type 0 where
  pub one_answer : HasOneAnswer P
  pub back : EnvelopesReadBack P
  pub stable : EnvelopesAreStable P
  pub one_form : EnvelopesHaveOneForm P
  pub rewritten : EnvelopesAreRewritten P
  pub twice : RewritingTwiceIsOnce P
  pub short : ShortTextsAreSized P
  pub normal_sized : NormalFormsAreSized P
  pub spelled_one_form : SpelledHaveOneForm P
