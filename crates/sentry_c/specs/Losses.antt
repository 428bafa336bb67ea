-- Sums of losses in one row: one for each category and reason, or none.
use Rattle.std.specs.Prelude.{◌≡◌, true, ℕ, List, map, Option, Some}
use Rattle.sentry_forward.specs.View.{AreNamed, piece_of}
use Rattle.sentry_forward.specs.AnyHeader.{any_header, any_reading, is_object_line}
use Rattle.sentry_forward.specs.Forward.{ArePieces}
use Rattle.sentry_forward.specs.declared.frames.AnyFrame.{AnyFrame}
use Rattle.sentry_framing.specs.Framing.{Frame, IsLineAndBody}
use Rattle.sentry_ledger.specs.FrameLosses.{AreLosses, AreLossesOfAll}
use Rattle.sentry_ledger.specs.LossSums.{SumsLosses}
use Rattle.sentry_ledger.specs.declared.loss_sums.LossSums.{LossSums}
use Rattle.sentry_reports.specs.declared.item_loss.ItemLoss.{ItemLoss}

-- the row has the sums of these losses
abbrev pub IsRowOfLosses : List ℕ → List ItemLoss → Type 0
IsRowOfLosses row losses = SumsLosses (record { row = row }) losses

-- these sums are those of the losses of frames
abbrev pub SumsFrames : List AnyFrame → LossSums → Type 0
SumsFrames frames sums = (losses : List ItemLoss) × AreLossesOfAll frames losses × SumsLosses sums losses

-- the row has the sums of the losses of frames
abbrev pub IsRowOfFrames : List ℕ → List AnyFrame → Type 0
IsRowOfFrames row frames = (sums : LossSums) × (row ≡ sums.row) × SumsFrames frames sums

-- The envelope in these bytes consists of these frames, below a header line that is one JSON
-- object.
pub record AreFramesOf (bytes : List ℕ) (frames : List AnyFrame) : Type 0 where
  pub line : List ℕ
  pub body : List ℕ
  pub header : IsLineAndBody bytes line body
  pub object : is_object_line line ≡ true
  pub framed : ArePieces any_reading body (map piece_of frames)
  pub named : AreNamed frames

-- these sums are those of what is lost with all frames of the envelope in these bytes
abbrev pub SumsEnvelope : List ℕ → LossSums → Type 0
SumsEnvelope bytes sums = (frames : List AnyFrame) × AreFramesOf bytes frames × SumsFrames frames sums

-- the row has the sums of what is lost with the envelope in these bytes
abbrev pub IsRowOfEnvelope : List ℕ → List ℕ → Type 0
IsRowOfEnvelope bytes row = (sums : LossSums) × (row ≡ sums.row) × SumsEnvelope bytes sums

-- These sums are those of what is lost with the frame of this header and this payload, whose type
-- has the word that the header says.
pub record SumsFrame (header payload : List ℕ) (sums : LossSums) : Type 0 where
  pub word : List ℕ
  pub stated : Option ℕ
  pub says : any_header header ≡ Some (record { word = word; length = stated })
  pub losses : List ItemLoss
  pub are : AreLosses (record { header = header; payload = payload }) word losses
  pub sums_are : SumsLosses sums losses

-- the row has the sums of what is lost with the frame of this header and this payload
abbrev pub IsRowOfFrame : List ℕ → List ℕ → List ℕ → Type 0
IsRowOfFrame header payload row = (sums : LossSums) × (row ≡ sums.row) × SumsFrame header payload sums
