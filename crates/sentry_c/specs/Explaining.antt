-- Faults of an envelope in rows.
use Rattle.std.specs.Prelude.{◌≡◌, ◌≤◌, ◌⊎◌, ◌-◌, ◌^◌, ℕ, ℤ, pos, List, [], length, take, Option, Some, None}
use Rattle.std.specs.List.{All, AllZip}
use Rattle.sentry_tables.specs.Cell.{Cell}
use Rattle.sentry_framing.specs.declared.error.EnvelopeError.{EnvelopeError}
use Rattle.sentry_envelope.specs.SentryProfile.{profile}
use Rattle.sentry_mending.specs.Alone.{Fails, Reads}
use Rattle.sentry_mending.specs.Told.{IsTold}
use Rattle.sentry_mending.specs.declared.fault.Cause.{Cause}
use Rattle.sentry_mending.specs.declared.fault.Cause.TheVariants as causes
use Rattle.sentry_mending.specs.declared.fault.Fault.{Fault}
use Rattle.sentry_c.specs.Misfits.{HasText, TellsPlace}
use Rattle.sentry_c.specs.Output.{PutsRows}
use Rattle.sentry_c.specs.Statuses.{refusal_status}
use Rattle.sentry_c.specs.Texts.{IsAt}
use Rattle.sentry_c.specs.declared.explaining.CurdmesaFault.{CurdmesaFault}
use Rattle.sentry_c.specs.declared.explaining.FaultRows.{FaultRows}
use Rattle.sentry_c.specs.declared.misfit.CurdmesaMisfit.{CurdmesaMisfit}

-- the index of an item; that of the header line is the last number
abbrev pub item_number : Option ℕ → ℕ
item_number None = 2 ^ 64 - 1
item_number (Some item) = item

-- the number of a cause: 0 for the whole, 1 for broken JSON, at the byte where it breaks, and 2 for
-- a value that doesn't fit, at its place
abbrev pub TellsCause : List ℕ → ℕ → CurdmesaMisfit → Cause → Type 0
TellsCause texts number misfit causes.Whole = number ≡ 0
TellsCause texts number misfit (causes.Syntax broken) = (number ≡ 1) × (misfit.start ≡ broken.at) × HasText texts misfit.wanted
TellsCause texts number misfit (causes.Place place) = (number ≡ 2) × TellsPlace texts misfit place

-- The row says what a fault does, with its texts at their places.
pub record TellsFault (texts : List ℕ) (row : CurdmesaFault) (fault : Fault) : Type 0 where
  pub item : row.item ≡ item_number fault.item
  pub start : row.start ≡ fault.start
  pub end : row.end ≡ fault.end
  pub error : row.error ≡ refusal_status fault.error
  pub cause : TellsCause texts row.cause row.misfit fault.cause
  pub word : IsAt texts row.word fault.word.items
  pub message : HasText texts row.message

-- the bytes read, and there is no fault; or the status is that of the first check that fails
abbrev pub IsAnswer : List ℕ → Cell → ℤ → List Fault → Type 0
IsAnswer bytes now error faults =
    ((error ≡ pos 0) × Reads profile now bytes × (faults ≡ []))
    ⊎ ((x : EnvelopeError) × (error ≡ refusal_status x) × Fails profile bytes x)

-- The texts of faults that are each told truly, of which the first stand in rows.
pub record IsFaultText (bytes : List ℕ) (now : Cell) (error : ℤ) (count : ℕ) (old new : List CurdmesaFault) (texts : List ℕ) : Type 0 where
  pub faults : List Fault
  pub told : All (IsTold profile bytes) faults
  pub answer : IsAnswer bytes now error faults
  pub count_is : count ≡ length faults
  pub rows : PutsRows (TellsFault texts) faults old new

-- the same, whatever rows are written
abbrev pub IsSomeFaultText : List ℕ → Cell → ℤ → ℕ → List CurdmesaFault → List ℕ → Type 0
IsSomeFaultText bytes now error count old texts = (new : List CurdmesaFault) × IsFaultText bytes now error count old new texts

-- ---- parts of a run

-- what `explain` tells, with rows of its first faults
pub record IsExplainedBy (bytes : List ℕ) (now : Cell) (most : ℕ) (shown : FaultRows) : Type 0 where
  pub faults : List Fault
  pub told : All (IsTold profile bytes) faults
  pub answer : IsAnswer bytes now shown.error faults
  pub count_is : shown.count ≡ length faults
  pub rows : AllZip (TellsFault shown.texts.items) shown.rows.items (take most faults)
  pub fit : length shown.rows.items ≤ most
