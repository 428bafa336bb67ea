-- Notes of a mended envelope in rows.
use Rattle.std.specs.Prelude.{◌≡◌, ◌≤◌, ◌++◌, ◌-◌, ◌^◌, min, Bool, false, ℕ, ℤ, pos, List, [], ◌∷◌, length, take, Option, Some, None, IfSome, IsSomeAnd}
use Rattle.std.specs.List.{All, AllZip}
use Rattle.sentry_tables.specs.Cell.{Cell}
use Rattle.sentry_framing.specs.declared.error.EnvelopeError.{EnvelopeError}
use Rattle.sentry_places.specs.Spliced.{AreInOrder, spliced}
use Rattle.sentry_places.specs.declared.note.Note.{Note}
use Rattle.sentry_places.specs.declared.note.Repair.{Repair}
use Rattle.sentry_places.specs.declared.note.Repair.TheVariants as repair
use Rattle.sentry_envelope.specs.Envelope.{Spells}
use Rattle.sentry_envelope.specs.EnvelopeView.{structured, text_of}
use Rattle.sentry_envelope.specs.SentryProfile.{profile}
use Rattle.sentry_mending.specs.Alone.{Fails}
use Rattle.sentry_mending.specs.MendedItems.{IsMended, all_notes}
use Rattle.sentry_mending.specs.declared.fault.Fault.{Fault}
use Rattle.sentry_mending.specs.declared.mending.MendRules.{MendRules}
use Rattle.sentry_mending.specs.declared.mending.Mended.{Mended}
use Rattle.sentry_mending.specs.declared.mending.MendedItem.{MendedItem}
use Rattle.sentry_c.specs.Misfits.{HasText, IsGrown, TellsPlace}
use Rattle.sentry_c.specs.Output.{PutsRows}
use Rattle.sentry_c.specs.Statuses.{refusal_status}
use Rattle.sentry_c.specs.Texts.{IsAt}
use Rattle.sentry_c.specs.declared.mending.CurdmesaNote.{CurdmesaNote}
use Rattle.sentry_c.specs.declared.mending.Notes.{Notes}
use Rattle.sentry_c.specs.declared.mending.Text.{Text}

-- the number of a repair: its place among the variants
abbrev pub repair_number : Repair → ℕ
repair_number repair.AsMoment = 0
repair_number repair.AsText = 1
repair_number repair.AsStringType = 2
repair_number repair.AsEmptyList = 3
repair_number repair.TakenOut = 4
repair_number repair.HeaderId = 5
repair_number repair.Length = 6
repair_number repair.Left = 7

-- the type of the item at fault, and the status of the check that refuses it: 0 without a fault
abbrev pub fault_word : Option Fault → List ℕ
fault_word None = []
fault_word (Some fault) = fault.word.items

abbrev pub fault_status : Option Fault → ℤ
fault_status None = pos 0
fault_status (Some fault) = refusal_status fault.error

abbrev pub word_of : MendedItem → List ℕ
word_of m = fault_word m.fault

abbrev pub error_of : MendedItem → ℤ
error_of m = fault_status m.fault

-- a note, with the item that it is on
abbrev pub NoteOn : Type 0
NoteOn = MendedItem × Note

-- notes of an item
abbrev pub notes_of : MendedItem → List Note → List NoteOn
notes_of item [] = []
notes_of item (note ∷ notes) = (item, note) ∷ notes_of item notes

-- the notes of all items: of each those on its frame, that of its id, and those on its payload
abbrev pub noted : List MendedItem → List NoteOn
noted [] = []
noted (item ∷ items) = notes_of item item.frame.items ++ (notes_of item item.id.items ++ (notes_of item item.payload.items ++ noted items))

-- The row says what a note does, with its texts at their places.
pub record TellsNote (texts : List ℕ) (row : CurdmesaNote) (on : NoteOn) : Type 0 where
  pub item : row.item ≡ on.0.item
  pub error : row.error ≡ error_of on.0
  pub word : IsAt texts row.word (word_of on.0)
  pub start : row.start ≡ on.1.start
  pub end : row.end ≡ on.1.end
  pub repair : row.repair ≡ repair_number on.1.repair
  pub place : TellsPlace texts row.misfit on.1.place
  pub instead : IsAt texts row.instead on.1.instead.items
  pub message : HasText texts row.message

-- so many, cut at the largest number of 64 bits
abbrev pub count_of : List NoteOn → ℕ
count_of all = min (length all) (2 ^ 64 - 1)

-- 0 for an envelope that reads as it stands
abbrev pub mended_status : Option EnvelopeError → ℤ
mended_status None = pos 0
mended_status (Some error) = refusal_status error

-- What mending gives: an envelope that the bytes spell with the notes' bytes replaced, and none
-- are, where the bytes read.
pub record IsMendedOf (bytes : List ℕ) (now : Cell) (rules : MendRules) (mended : Mended) : Type 0 where
  pub in_order : AreInOrder 0 (all_notes mended.items.items) bytes
  pub spelled : IsSomeAnd (structured mended.envelope) (Spells profile (spliced 0 (all_notes mended.items.items) bytes) now)
  pub each : All (IsMended profile now rules bytes mended.error) mended.items.items
  pub as_it_stands : mended.error ≡ None → rules.header_event_id ≡ false → mended.items.items ≡ []
  pub fails : IfSome mended.error (Fails profile bytes)

-- The text of a mended envelope, of so many bytes, and behind it the texts of its notes, of which
-- the first stand in rows.
pub record IsMendedText (bytes : List ℕ) (now : Cell) (header_event_id : Bool) (len : ℕ) (error : ℤ) (count : ℕ) (old new : List CurdmesaNote) (texts : List ℕ) : Type 0 where
  pub rules : MendRules
  pub tested_is : rules.max_tested ≡ 32
  pub id_is : rules.header_event_id ≡ header_event_id
  pub mended : Mended
  pub is : IsMendedOf bytes now rules mended
  pub error_is : error ≡ mended_status mended.error
  pub len_is : len ≡ length (text_of mended.envelope)
  pub front : IsGrown (text_of mended.envelope) texts
  pub count_is : count ≡ count_of (noted mended.items.items)
  pub rows : PutsRows (TellsNote texts) (noted mended.items.items) old new

-- the same, whatever rows are written
abbrev pub IsSomeMendedText : List ℕ → Cell → Bool → ℕ → ℤ → ℕ → List CurdmesaNote → List ℕ → Type 0
IsSomeMendedText bytes now header_event_id len error count old texts = (new : List CurdmesaNote) × IsMendedText bytes now header_event_id len error count old new texts

-- ---- parts of a run

-- Rows of the first of these notes, with their texts behind others.
pub record AreNoted (front : List ℕ) (most : ℕ) (all : List NoteOn) (notes : Notes) : Type 0 where
  pub grown : IsGrown front notes.texts.items
  pub count_is : notes.count ≡ count_of all
  pub rows : AllZip (TellsNote notes.texts.items) notes.rows.items (take most all)

-- whatever notes were told before, these are told behind them
abbrev pub AddsNotes : ℕ → Notes → Notes → List NoteOn → Type 0
AddsNotes most old new added = (front : List ℕ) (before : List NoteOn) → AreNoted front most before old → AreNoted front most (before ++ added) new

-- what mending gives as texts, with rows of its first notes
pub record IsMendedAs (bytes : List ℕ) (now : Cell) (rules : MendRules) (most : ℕ) (text : Text) : Type 0 where
  pub mended : Mended
  pub is : IsMendedOf bytes now rules mended
  pub error_is : text.error ≡ mended_status mended.error
  pub len_is : text.len ≡ length (text_of mended.envelope)
  pub notes : AreNoted (text_of mended.envelope) most (noted mended.items.items) text.notes
  pub fit : length text.notes.rows.items ≤ most
