-- What is due for an envelope, and what a run reads and writes.
use Rattle.std.specs.Prelude.{◌≡◌, ◌⊎◌, ℕ, ◌+◌, Bool, List, [], ◌∷◌, Option, Some, None, Result, Ok, Err}
use Rattle.sentry_tables.specs.Cell.{Cell}
use Rattle.sentry_envelope.specs.Envelope.{Envelope as Model, Spells, envelope_text}
use Rattle.sentry_envelope.specs.EnvelopeFault.{Fault}
use Rattle.sentry_envelope.specs.FilteredText.{IsTextOfLeft}
use Rattle.sentry_envelope.specs.OneEnvelope.{NothingDrawnIn}
use Rattle.sentry_envelope.specs.SentryProfile.{profile}
use Rattle.sentry_framing.specs.declared.kind.ItemKind.{ItemKind}
use Rattle.sentry_envelope.specs.FilteredText.{is_none_of}
use Rattle.sentry_env.specs.Streams.{Breaks, Gets, Reads, Stays, Stream, Streams}
use Rattle.sentry_program.specs.Table.{table_of}
use Rattle.sentry_reports.specs.declared.item_loss.ItemLoss.{ItemLoss}
use Rattle.sentry_env.specs.declared.ending.Outcome.{Outcome}
use Rattle.sentry_env.specs.declared.ending.Outcome.TheVariants.{Written, NothingLeft}
use Rattle.sentry_env.specs.declared.ending.RunError.{RunError}
use Rattle.sentry_env.specs.declared.ending.RunError.TheVariants.{Refused, Read, Memory, Write}

-- ---- what is due

-- the texts that the output and the table are to get, and the outcome
pub record Due : Type 0 where
  pub out : List ℕ
  pub table : List ℕ
  pub outcome : Outcome

abbrev pub dues : List ℕ → List ℕ → Outcome → Due
dues out table outcome = record { out = out; table = table; outcome = outcome }

-- the text of what is left; no text where nothing is
abbrev pub left_text : Option (List ℕ) → List ℕ
left_text None = []
left_text (Some text) = text

abbrev pub left_outcome : Option (List ℕ) → Outcome
left_outcome None = NothingLeft
left_outcome (Some text) = Written

-- what is due for the text of what is left, if anything is, with a table
abbrev pub left_due : Option (List ℕ) → List ℕ → Due
left_due left table = dues (left_text left) table (left_outcome left)

-- ---- a run

-- The kinds that a run takes out, whether it keeps the header, and the moment at which it reads.
pub record Settings : Type 0 where
  pub kinds : List ItemKind
  pub keep_headers : Bool
  pub now : Cell

abbrev pub settings : List ItemKind → Bool → Cell → Settings
settings kinds keep_headers now = record { kinds = kinds; keep_headers = keep_headers; now = now }

-- without kinds, the text of an envelope that the bytes spell is due, and no table
pub record IsWholeDue (now : Cell) (due : Due) (bytes : List ℕ) : Type 0 where
  pub envelope : Model
  pub spells : Spells profile bytes now envelope
  pub due_is : due ≡ dues (envelope_text profile envelope) [] Written

-- with kinds, the text of what is left of an envelope that the bytes spell is due where they are
-- taken out, and the table of the losses
pub record IsRestDue (set : Settings) (due : Due) (bytes : List ℕ) : Type 0 where
  pub text : Option (List ℕ)
  pub losses : List ItemLoss
  pub left : IsTextOfLeft (is_none_of set.kinds) set.keep_headers bytes set.now text losses
  pub due_is : due ≡ left_due text (table_of losses)

abbrev pub IsDueBy : List ItemKind → Settings → Due → List ℕ → Type 0
IsDueBy [] set due bytes = IsWholeDue set.now due bytes
IsDueBy (kind ∷ kinds) set due bytes = IsRestDue set due bytes

-- this is due for the bytes
abbrev pub IsDueFor : Settings → Due → List ℕ → Type 0
IsDueFor set due bytes = IsDueBy set.kinds set due bytes

-- the input is read, and both writers get the whole of what is due for it
pub record WritesAll (set : Settings) (old new : Streams) (outcome : Outcome) : Type 0 where
  pub due : Due
  pub reads : Reads old.input new.input (IsDueFor set due)
  pub out_gets : Gets old.out new.out due.out
  pub table_gets : Gets old.table new.table due.table
  pub outcome_is : outcome ≡ due.outcome

-- the input is read, and a write fails: of the text that is due for the output, and then nothing is
-- written of the table, or of the table after all of that text
pub record WritesPart (set : Settings) (old new : Streams) : Type 0 where
  pub due : Due
  pub reads : Reads old.input new.input (IsDueFor set due)
  pub part : (Breaks old.out new.out due.out × Stays old.table new.table) ⊎ (Gets old.out new.out due.out × Breaks old.table new.table due.table)

abbrev pub WritesNothing : Streams → Streams → Type 0
WritesNothing old new = Stays old.out new.out × Stays old.table new.table

-- what a run did, by its answer
abbrev pub Runs : Settings → Streams → Streams → Result Outcome RunError → Type 0
Runs set old new (Ok outcome) = WritesAll set old new outcome
Runs set old new (Err (Refused fault)) = Reads old.input new.input (λ bytes. Fault profile bytes fault) × WritesNothing old new
Runs set old new (Err Read) = (new.input.failures ≡ old.input.failures + 1) × WritesNothing old new
Runs set old new (Err Memory) = (new.input.failures ≡ old.input.failures) × WritesNothing old new
Runs set old new (Err Write) = WritesPart set old new

-- Where nothing is drawn, the bytes that were read and the settings settle what is due.
abbrev pub DueIsSettled : Type 0
DueIsSettled = (set : Settings) (bytes : List ℕ) (due due' : Due) → NothingDrawnIn profile bytes → IsDueFor set due bytes → IsDueFor set due' bytes → due ≡ due'

-- ---- parts of a run

-- a text was sent or not, by the answer
abbrev pub Sends : {A : Type 0} → Stream → Stream → List ℕ → Result A RunError → Type 0
Sends old new text (Ok answer) = Gets old new text
Sends old new text (Err (Refused fault)) = ⊥
Sends old new text (Err Read) = ⊥
Sends old new text (Err Memory) = Stays old new
Sends old new text (Err Write) = Breaks old new text
