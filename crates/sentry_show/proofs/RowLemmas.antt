-- How frames are found one after another, and that they are those of an envelope.
use Rattle.std.proofs.Common.{◌≡◌, ◌⊎◌, ℕ, List, [], ◌∷◌, ◌++◌, Some, true, false, map, refl, sym, subst, inl, inr}
use Rattle.std.proofs.lemmas.List.Elements.{All-nil}
use Rattle.std.specs.Bool.{MatchBool}
use Rattle.std.specs.List.{All}
use Rattle.sentry_framing.specs.Framing.{AreFrames, IsFault, IsFirstFrame, IsLineAndBody}
use Rattle.sentry_framing.specs.declared.error.EnvelopeError.{EnvelopeError}
use Rattle.sentry_framing.specs.declared.error.EnvelopeError.TheVariants.{InvalidHeader, OutOfMemory}
use Rattle.sentry_forward.specs.AnyHeader.{any_header, any_reading, is_object_line}
use Rattle.sentry_forward.specs.View.{IsPlaced, any_frame, says}
use Rattle.sentry_forward.specs.declared.frames.AnyFrame.{AnyFrame}
use Rattle.sentry_show.specs.Rows.{AreRows, IsRowOf, Stand, frame_of}
use Rattle.sentry_show.specs.declared.survey.Row.{Row}

-- one more frame stands
pub stands_more : (body rest next : List ℕ) (rows : List Row) (row : Row) → AreFrames any_reading body (map frame_of rows) rest → IsFirstFrame any_reading rest (frame_of row) next → AreFrames any_reading body (map frame_of (rows ++ row ∷ [])) next
stands_more body rest next [] row stand first = (next, subst (λ y. IsFirstFrame any_reading y (frame_of row) next) (sym stand) first, refl)
stands_more body rest next (r ∷ rows) row (n, stands, more) first = (n, stands, stands_more n rest next rows row more first)

pub stand_all : (body rest : List ℕ) (rows : List Row) → AreFrames any_reading body (map frame_of rows) rest → rest ≡ [] → Stand body rows
stand_all body rest rows frames none = record { rest = rest; frames = frames; ended = inl none }

pub stand_before : (body rest : List ℕ) (rows : List Row) (error : EnvelopeError) → AreFrames any_reading body (map frame_of rows) rest → IsFault any_reading rest error → Stand body rows
stand_before body rest rows error frames fault = record { rest = rest; frames = frames; ended = inr (error, fault) }

pub rows_made : (bytes line body : List ℕ) (rows : List Row) → IsLineAndBody bytes line body → is_object_line line ≡ true → Stand body rows → All (IsRowOf bytes) rows → AreRows bytes rows
rows_made bytes line body rows parts object stand each = record { line = line; body = body; parts = parts; rows_are = inl (object, stand); each = each }

pub no_rows : (bytes : List ℕ) (e : EnvelopeError) → (e ≡ OutOfMemory) ⊎ ((e ≡ InvalidHeader) × ((line : List ℕ) × (body : List ℕ) × IsLineAndBody bytes line body × (is_object_line line ≡ false))) → (e ≡ OutOfMemory → ⊥) → AreRows bytes []
no_rows bytes e (inl memory) other = absurd (other memory)
no_rows bytes e (inr (header, (line, body, parts, object))) other = record { line = line; body = body; parts = parts; rows_are = inr (object, refl); each = All-nil (IsRowOf bytes) }
