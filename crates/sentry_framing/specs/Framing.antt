-- The framing of an envelope: a header line, and frames of a header and a payload.
use Rattle.std.specs.Prelude.{◌≡◌, ◌≢◌, ◌⊎◌, ◌<◌, ℕ, List, [], ◌∷◌, ◌++◌, length, Bool, ◌||◌, ◌==◌, IsTrue, Option, Some, None}
use Rattle.std.specs.List.{All}
use Rattle.sentry_json.specs.Balanced.{IsBalanced}
use Rattle.sentry_json.specs.Line.{newline, HasNoNewline}
use Rattle.sentry_framing.specs.declared.error.EnvelopeError.{EnvelopeError}
use Rattle.sentry_framing.specs.declared.error.EnvelopeError.TheVariants.{UnexpectedEof, MissingHeader, MissingItemHeader, MissingNewline, InvalidHeader, InvalidItemHeader, InvalidItemPayload, OutOfMemory}

-- space, tab, LF, CR
abbrev pub is_space : ℕ → Bool
is_space b = (b == 32) || (b == 9) || (b == 10) || (b == 13)

abbrev pub IsBlank : List ℕ → Type 0
IsBlank bytes = All (λ b. IsTrue (is_space b)) bytes

-- bytes, NL, and what is next
abbrev pub with_line : List ℕ → List ℕ → List ℕ
with_line line next = line ++ newline ∷ next

-- the end, with nothing next, or NL and what is next
abbrev pub EndsLine : List ℕ → List ℕ → Type 0
EndsLine bytes next = ((bytes ≡ []) × (next ≡ [])) ⊎ (bytes ≡ newline ∷ next)

-- neither the end nor NL comes first
abbrev pub GoesOn : List ℕ → Type 0
GoesOn bytes = (b : ℕ) × (more : List ℕ) × (bytes ≡ b ∷ more) × (b ≢ newline)

-- a header line without NL, then the end, or NL and a body
pub record IsLineAndBody (bytes line body : List ℕ) : Type 0 where
  pub after : List ℕ
  pub no_newline : HasNoNewline line
  pub parts : bytes ≡ line ++ after
  pub ends : EndsLine after body

-- white space, a balanced piece, and what follows it
pub record Opens (body header after : List ℕ) : Type 0 where
  pub space : List ℕ
  pub blank : IsBlank space
  pub balanced : IsBalanced header
  pub parts : body ≡ space ++ (header ++ after)

pub record Frame : Type 0 where
  pub header : List ℕ
  pub payload : List ℕ

-- What a header says of its payload: None where it is no item header, else the length if it states
-- one.
abbrev pub Reading : Type 0
Reading = List ℕ → Option (Option ℕ)

-- of the stated length, or else without NL
abbrev pub HasSize : Option ℕ → List ℕ → Type 0
HasSize None payload = HasNoNewline payload
HasSize (Some n) payload = length payload ≡ n

-- The payload at the front, and what follows it: without a stated length it ends a line.
abbrev pub CutsPayload : Option ℕ → List ℕ → List ℕ → List ℕ → Type 0
CutsPayload None bytes payload tail = (bytes ≡ payload ++ tail) × HasNoNewline payload × ((next : List ℕ) × EndsLine tail next)
CutsPayload (Some n) bytes payload tail = (bytes ≡ payload ++ tail) × (length payload ≡ n)

-- After a header: the end, with empty payload; or NL, a payload, the end; or NL, a payload, NL, a
-- body.
abbrev pub Follows : List ℕ → List ℕ → List ℕ → Type 0
Follows after payload body =
    ((after ≡ []) × (payload ≡ []) × (body ≡ []))
    ⊎ (((after ≡ newline ∷ payload) × (body ≡ []))
    ⊎ (after ≡ newline ∷ (payload ++ newline ∷ body)))

-- the first frame of a body, and the body that follows it
pub record IsFirstFrame (reads : Reading) (body : List ℕ) (frame : Frame) (rest : List ℕ) : Type 0 where
  pub after : List ℕ
  pub opens : Opens body frame.header after
  pub stated : Option ℕ
  pub accepted : reads frame.header ≡ Some stated
  pub size : HasSize stated frame.payload
  pub follows : Follows after frame.payload rest

-- these frames stand first in a body, and this body follows them
abbrev pub AreFrames : Reading → List ℕ → List Frame → List ℕ → Type 0
AreFrames reads body [] rest = body ≡ rest
AreFrames reads body (frame ∷ frames) rest = (next : List ℕ) × IsFirstFrame reads body frame next × AreFrames reads next frames rest

-- ---- the first check that fails

-- the header stands, and is accepted
pub record HasHeader (reads : Reading) (body after : List ℕ) (stated : Option ℕ) : Type 0 where
  pub header : List ℕ
  pub opens : Opens body header after
  pub accepted : reads header ≡ Some stated

-- fewer bytes are left than the header states
pub record IsShort (reads : Reading) (body : List ℕ) : Type 0 where
  pub after : List ℕ
  pub left : List ℕ
  pub stated : ℕ
  pub header : HasHeader reads body after (Some stated)
  pub begins : EndsLine after left
  pub short : length left < stated

-- the header goes on in its line
pub record IsUnendedHeader (reads : Reading) (body : List ℕ) : Type 0 where
  pub after : List ℕ
  pub stated : Option ℕ
  pub header : HasHeader reads body after stated
  pub goes_on : GoesOn after

-- the payload goes on after the stated length
pub record IsUnendedPayload (reads : Reading) (body : List ℕ) : Type 0 where
  pub after : List ℕ
  pub payload : List ℕ
  pub tail : List ℕ
  pub header : HasHeader reads body after (Some (length payload))
  pub parts : after ≡ newline ∷ (payload ++ tail)
  pub goes_on : GoesOn tail

-- no accepted header stands after the white space
pub record IsWithoutHeader (reads : Reading) (body : List ℕ) : Type 0 where
  pub remains : IsBlank body → ⊥
  pub refused : (header after : List ℕ) → Opens body header after → reads header ≡ None

-- The first check that fails, of a body of one or more bytes.
abbrev pub IsFault : Reading → List ℕ → EnvelopeError → Type 0
IsFault reads body UnexpectedEof = IsBlank body ⊎ IsShort reads body
IsFault reads body InvalidItemHeader = IsWithoutHeader reads body
IsFault reads body MissingNewline = IsUnendedHeader reads body ⊎ IsUnendedPayload reads body
IsFault reads body MissingHeader = ⊥
IsFault reads body MissingItemHeader = ⊥
IsFault reads body InvalidHeader = ⊥
IsFault reads body InvalidItemPayload = ⊥
IsFault reads body OutOfMemory = ⊥

-- ---- a whole body

abbrev pub IsFramed : Reading → List ℕ → List Frame → Type 0
IsFramed reads body frames = AreFrames reads body frames []

-- some number of frames stand, bytes remain, and this is their fault
pub record IsAtFault (reads : Reading) (body : List ℕ) (error : EnvelopeError) : Type 0 where
  pub frames : List Frame
  pub rest : List ℕ
  pub stand : AreFrames reads body frames rest
  pub remains : rest ≢ []
  pub fault : IsFault reads rest error

-- what the bytes of a body are
pub data Verdict : Type 0 where
  framed : List Frame → Verdict
  at_fault : EnvelopeError → Verdict

abbrev pub IsVerdict : Reading → List ℕ → Verdict → Type 0
IsVerdict reads body (framed frames) = IsFramed reads body frames
IsVerdict reads body (at_fault error) = IsAtFault reads body error

-- one verdict holds, and no other
pub record HasOneVerdict (reads : Reading) (body : List ℕ) : Type 0 where
  pub verdict : Verdict
  pub holds : IsVerdict reads body verdict
  pub only : (other : Verdict) → IsVerdict reads body other → other ≡ verdict
