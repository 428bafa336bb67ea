-- The first check of an envelope's bytes that fails.
use Rattle.std.specs.Prelude.{◌≡◌, ◌≢◌, ◌⊎◌, ℕ, List, [], ◌∷◌, None, IsSome}
use Rattle.sentry_tables.specs.Cell.{Cell}
use Rattle.sentry_tables.specs.Kind.{Kind}
use Rattle.sentry_tables.specs.Laws.{TextShows}
use Rattle.sentry_framing.specs.Framing.{Frame, IsLineAndBody, IsFirstFrame, IsFault}
use Rattle.sentry_envelope.specs.Profile.{Profile}
use Rattle.sentry_envelope.specs.Envelope.{Item, reads, ItemShows}
use Rattle.sentry_framing.specs.declared.error.EnvelopeError.{EnvelopeError}
use Rattle.sentry_framing.specs.declared.error.EnvelopeError.TheVariants.{UnexpectedEof, MissingHeader, MissingItemHeader, MissingNewline, InvalidHeader, InvalidItemHeader, InvalidItemPayload, OutOfMemory}

-- the line shows a value of the kind, at every moment
abbrev pub LineStands : Kind → List ℕ → Type 0
LineStands K line = (now : Cell) → (c : Cell) × TextShows K now line c

-- the line shows no value of the kind, at no moment
abbrev pub LineIsRefused : Kind → List ℕ → Type 0
LineIsRefused K line = (now c : Cell) → TextShows K now line c → ⊥

-- the frame shows an item, at every moment
abbrev pub FrameStands : Profile → Frame → Type 0
FrameStands P frame = (now : Cell) → (i : Item) × ItemShows P now frame i

-- the frame shows no item, at no moment
abbrev pub FrameIsRefused : Profile → Frame → Type 0
FrameIsRefused P frame = (now : Cell) (i : Item) → ItemShows P now frame i → ⊥

-- The first check of a frame by itself that fails: of its header, and of its payload.
abbrev pub IsItemFault : Profile → Frame → EnvelopeError → Type 0
IsItemFault P frame InvalidItemHeader = reads P frame.header ≡ None
IsItemFault P frame InvalidItemPayload = IsSome (reads P frame.header) × FrameIsRefused P frame
IsItemFault P frame UnexpectedEof = ⊥
IsItemFault P frame MissingHeader = ⊥
IsItemFault P frame MissingItemHeader = ⊥
IsItemFault P frame MissingNewline = ⊥
IsItemFault P frame InvalidHeader = ⊥
IsItemFault P frame OutOfMemory = ⊥

-- these frames stand first in a body in all checks, and this body follows them
abbrev pub FramesStand : Profile → List ℕ → List Frame → List ℕ → Type 0
FramesStand P body [] rest = body ≡ rest
FramesStand P body (f ∷ fs) rest = (next : List ℕ) × IsFirstFrame (reads P) body f next × FrameStands P f × FramesStand P next fs rest

-- the first frame stands, but its payload shows no value of its type
pub record HasRefusedPayload (P : Profile) (body : List ℕ) : Type 0 where
  pub frame : Frame
  pub rest : List ℕ
  pub first : IsFirstFrame (reads P) body frame rest
  pub refused : FrameIsRefused P frame

-- the checks of what remains, in order: of its framing, and of its payload
abbrev pub IsFirstFault : Profile → List ℕ → EnvelopeError → Type 0
IsFirstFault P body x = IsFault (reads P) body x ⊎ ((x ≡ InvalidItemPayload) × HasRefusedPayload P body)

-- some number of frames stand in all checks, bytes remain, and this is the first check of them that
-- fails
pub record BodyIsAtFault (P : Profile) (body : List ℕ) (x : EnvelopeError) : Type 0 where
  pub frames : List Frame
  pub rest : List ℕ
  pub stand : FramesStand P body frames rest
  pub remains : rest ≢ []
  pub fault : IsFirstFault P rest x

-- The header line is refused, or it stands and the body is at fault.
pub record Fault (P : Profile) (bytes : List ℕ) (x : EnvelopeError) : Type 0 where
  pub line : List ℕ
  pub body : List ℕ
  pub parts : IsLineAndBody bytes line body
  pub first : ((x ≡ InvalidHeader) × LineIsRefused P.header line) ⊎ (LineStands P.header line × BodyIsAtFault P body x)
