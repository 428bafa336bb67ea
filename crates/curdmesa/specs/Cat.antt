-- The payload of an item, by its number.
use Rattle.std.specs.Prelude.{◌≡◌, ◌+◌, ◌<◌, true, ℕ, List, [], ◌∷◌, ◌++◌, length}
use Rattle.sentry_framing.specs.Framing.{AreFrames, Frame, IsLineAndBody}
use Rattle.sentry_forward.specs.AnyHeader.{any_reading, is_object_line}

-- The header line is an object, and these frames stand first behind it; what follows may be none.
pub record FramesStand (bytes : List ℕ) (frames : List Frame) (rest : List ℕ) : Type 0 where
  pub line : List ℕ
  pub body : List ℕ
  pub header : IsLineAndBody bytes line body
  pub object : is_object_line line ≡ true
  pub stand : AreFrames any_reading body frames rest

-- the item of this number, from 1, has this payload
pub record IsPayloadOf (bytes : List ℕ) (number : ℕ) (payload : List ℕ) : Type 0 where
  pub before : List Frame
  pub frame : Frame
  pub rest : List ℕ
  pub stand : FramesStand bytes (before ++ frame ∷ []) rest
  pub numbered : length before + 1 ≡ number
  pub payload_is : frame.payload ≡ payload

-- there are fewer items
pub record HasFewer (bytes : List ℕ) (number : ℕ) : Type 0 where
  pub frames : List Frame
  pub stand : FramesStand bytes frames []
  pub fewer : length frames < number
