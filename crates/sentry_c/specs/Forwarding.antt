-- Forwarding by a list of answers.
use Rattle.std.specs.Prelude.{◌≡◌, ◌≢◌, ◌==◌, ◌⊎◌, ℕ, Bool, false, true, List, [], ◌∷◌, map, length}
use Rattle.std.specs.List.{All}
use Rattle.sentry_forward.specs.AnyHeader.{any_reading, is_object_line}
use Rattle.sentry_forward.specs.Forward.{Leaves, dropped}
use Rattle.sentry_forward.specs.View.{AreNamed, IsOver, IsPlaced, decided, piece_of, text_of}
use Rattle.sentry_forward.specs.declared.forwarding.Forwarded.{Forwarded}
use Rattle.sentry_forward.specs.declared.frames.AnyFrame.{AnyFrame}

-- 1 answers yes, and without an answer that is no
abbrev pub first_answer : List ℕ → Bool
first_answer [] = false
first_answer (answer ∷ keep) = answer == 1

abbrev pub after_first : List ℕ → List ℕ
after_first [] = []
after_first (answer ∷ keep) = keep

-- the answers to frames, in order
abbrev pub answers_by : List ℕ → List AnyFrame → List Bool
answers_by keep [] = []
answers_by keep (frame ∷ frames) = first_answer keep ∷ answers_by (after_first keep) frames

-- The text is the bytes without the items of the frames that are dropped after these answers.
pub record IsForwardedAs (bytes keep : List ℕ) (follow : Bool) (result : Forwarded) : Type 0 where
  pub line : List ℕ
  pub frames : List AnyFrame
  pub object : is_object_line line ≡ true
  pub named : AreNamed frames
  pub placed : All (IsPlaced bytes) frames
  pub left : Leaves any_reading bytes line (map piece_of frames) (decided follow frames (answers_by keep frames)) (text_of result)
  pub gone : result.dropped.items ≡ dropped frames (decided follow frames (answers_by keep frames))
  pub count : result.items ≡ length frames

-- the envelope in these bytes has more frames than so many, or all are another number of them
abbrev pub HasOtherCount : List ℕ → ℕ → Type 0
HasOtherCount bytes count = IsOver bytes count ⊎ ((keep : List ℕ) × (follow : Bool) × (result : Forwarded) × IsForwardedAs bytes keep follow result × (result.items ≢ count))
