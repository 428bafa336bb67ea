-- The item frames of an envelope, and which of them read as items.
use Rattle.std.specs.Prelude.{◌≡◌, ◌⊎◌, ℕ, List, [], Some, true, false, map}
use Rattle.std.specs.Bool.{MatchBool}
use Rattle.std.specs.List.{All}
use Rattle.sentry_framing.specs.Framing.{AreFrames, Frame, IsFault, IsLineAndBody}
use Rattle.sentry_framing.specs.declared.error.EnvelopeError.{EnvelopeError}
use Rattle.sentry_forward.specs.AnyHeader.{any_header, any_reading, is_object_line}
use Rattle.sentry_forward.specs.View.{IsPlaced, any_frame, says}
use Rattle.sentry_envelope.specs.EnvelopeFault.{FrameIsRefused}
use Rattle.sentry_envelope.specs.SentryProfile.{profile}
use Rattle.sentry_show.specs.Verdicts.{IsRead}
use Rattle.sentry_show.specs.declared.survey.Row.{Row}

abbrev pub frame_of : Row → Frame
frame_of row = any_frame row.frame

-- The frame stands in the bytes where it tells, with the type that its header says, and is accepted
-- exactly if it reads as an item.
pub record IsRowOf (bytes : List ℕ) (row : Row) : Type 0 where
  pub placed : IsPlaced bytes row.frame
  pub named : any_header row.frame.header.now ≡ Some (says row.frame)
  pub judged : MatchBool row.accepted (IsRead (frame_of row)) (FrameIsRefused profile (frame_of row))

-- these frames stand one after the other in the body, and behind them stands nothing or no frame
pub record Stand (body : List ℕ) (rows : List Row) : Type 0 where
  pub rest : List ℕ
  pub frames : AreFrames any_reading body (map frame_of rows) rest
  pub ended : (rest ≡ []) ⊎ ((error : EnvelopeError) × IsFault any_reading rest error)

-- The frames behind a header line that is an object; behind any other there are none.
pub record AreRows (bytes : List ℕ) (rows : List Row) : Type 0 where
  pub line : List ℕ
  pub body : List ℕ
  pub parts : IsLineAndBody bytes line body
  pub rows_are : ((is_object_line line ≡ true) × Stand body rows) ⊎ ((is_object_line line ≡ false) × (rows ≡ []))
  pub each : All (IsRowOf bytes) rows
