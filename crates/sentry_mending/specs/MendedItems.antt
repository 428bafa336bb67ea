-- Items that are mended or left.
use Rattle.std.specs.Prelude.{◌≡◌, ◌⊎◌, ℕ, ◌≤◌, List, [], ◌∷◌, ◌++◌, Option, Some, None, IfSome, IsSomeAnd, false, length, take}
use Rattle.std.specs.Fmt.{decimal}
use Rattle.std.specs.List.{All}
use Rattle.sentry_tables.specs.Cell.{Cell}
use Rattle.sentry_places.specs.Honest.{IsHonest}
use Rattle.sentry_places.specs.Needed.{AreNeeded}
use Rattle.sentry_places.specs.Spliced.{spliced}
use Rattle.sentry_places.specs.declared.note.Note.{Note}
use Rattle.sentry_places.specs.declared.note.Repair.TheVariants.{Left, Length}
use Rattle.sentry_framing.specs.declared.error.EnvelopeError.{EnvelopeError}
use Rattle.sentry_envelope.specs.Profile.{Profile}
use Rattle.sentry_mending.specs.Alone.{RefusesPayload}
use Rattle.sentry_mending.specs.HeaderIds.{GivesId}
use Rattle.sentry_mending.specs.Times.{IsTimeOf}
use Rattle.sentry_mending.specs.Told.{IsTold}
use Rattle.sentry_mending.specs.declared.fault.Fault.{Fault}
use Rattle.sentry_mending.specs.declared.mending.MendRules.{MendRules}
use Rattle.sentry_mending.specs.declared.mending.MendedItem.{MendedItem}

-- the notes of all items: of each those on its frame, that of its id, and those on its payload
abbrev pub all_notes : List MendedItem → List Note
all_notes [] = []
all_notes (m ∷ ms) = m.frame.items ++ (m.id.items ++ (m.payload.items ++ all_notes ms))

-- the note is on `length`, and puts the length of these bytes
abbrev pub StatesLength : List ℕ → Note → Type 0
StatesLength payload n = (n.repair ≡ Length) × (n.instead.items ≡ decimal (length payload))

-- one note leaves out all bytes that this fault refuses
abbrev pub LeavesOut : Fault → List Note → Type 0
LeavesOut f [] = ⊥
LeavesOut f (n ∷ []) = (n.repair ≡ Left) × (n.start ≡ f.start) × (n.end ≡ f.end)
LeavesOut f (n ∷ m ∷ ns) = ⊥

-- the first note leaves bytes out
abbrev pub IsLeftFirst : List Note → Type 0
IsLeftFirst [] = ⊥
IsLeftFirst (n ∷ ns) = n.repair ≡ Left

-- the item is left out whole, and was refused
abbrev pub IsLeft : MendedItem → Type 0
IsLeft m = IsSomeAnd m.fault (λ f. LeavesOut f m.frame.items) × (m.id.items ≡ []) × (m.payload.items ≡ [])

-- the payload as its notes leave it
abbrev pub payload_with : List ℕ → MendedItem → List ℕ
payload_with bytes m = spliced m.payload_start (m.id.items ++ m.payload.items) (take m.payload_end bytes)

-- with any one note on the payload undone, the payload of this type is refused, where no more than
-- `tested` stand there
abbrev pub IsNeeded : Profile → ℕ → List ℕ → MendedItem → List ℕ → Type 0
IsNeeded P tested bytes m word =
    length m.payload.items ≤ tested → AreNeeded (RefusesPayload P word) m.payload_start (take m.payload_end bytes) m.payload.items

-- An item with a fault is refused as it stands; without one it gets the header's id and no more, as
-- each does where all bytes read. It is left out whole, or keeps its header but for `length`. The
-- notes put what they say, and those on the payload are needed.
pub record IsMended (P : Profile) (now : Cell) (rules : MendRules) (bytes : List ℕ) (error : Option EnvelopeError) (m : MendedItem) : Type 0 where
  pub told : IfSome m.fault (IsTold P bytes)
  pub index : IfSome m.fault (λ f. f.item ≡ Some m.item)
  pub faultless : error ≡ None → m.fault ≡ None
  pub kept : m.fault ≡ None → m.payload.items ≡ []
  pub honest_frame : All (IsHonest IsTimeOf bytes) m.frame.items
  pub honest_payload : All (IsHonest IsTimeOf bytes) m.payload.items
  pub given : All (GivesId now bytes) m.id.items
  pub not_asked : rules.header_event_id ≡ false → m.id.items ≡ []
  pub framed : IsLeft m ⊎ All (StatesLength (payload_with bytes m)) m.frame.items
  pub needed : IfSome m.fault (λ f. IsNeeded P rules.max_tested bytes m f.word.items)
