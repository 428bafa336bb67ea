-- How frames are found one after another.
use Rattle.std.proofs.Common.{◌≡◌, ℕ, List, [], ◌∷◌, ◌++◌, inr, refl, subst, sym}
use Rattle.sentry_framing.specs.Framing.{AreFrames, Frame, IsFault, IsFirstFrame}
use Rattle.sentry_framing.specs.declared.error.EnvelopeError.{EnvelopeError}
use Rattle.sentry_forward.specs.AnyHeader.{any_reading}
use Rattle.sentry_forward.specs.View.{IsRefused}
use Rattle.curdmesa.specs.Cat.{FramesStand}

are_more : (body : List ℕ) (frames : List Frame) (frame : Frame) (rest next : List ℕ) → AreFrames any_reading body frames rest → IsFirstFrame any_reading rest frame next → AreFrames any_reading body (frames ++ frame ∷ []) next
are_more body [] frame rest next h first = (next, subst (λ y. IsFirstFrame any_reading y frame next) (sym h) first, refl)
are_more body (f ∷ frames) frame rest next (n, stands, more) first = (n, stands, are_more n frames frame rest next more first)

-- one more frame stands
pub frames_more : (bytes : List ℕ) (frames : List Frame) (frame : Frame) (rest next : List ℕ) → FramesStand bytes frames rest → IsFirstFrame any_reading rest frame next → FramesStand bytes (frames ++ frame ∷ []) next
frames_more bytes frames frame rest next h first = record {
  line = h.line;
  body = h.body;
  header = h.header;
  object = h.object;
  stand = are_more h.body frames frame rest next h.stand first;
}

-- a fault behind the frames that stand refuses the envelope
pub refused : (bytes : List ℕ) (frames : List Frame) (rest : List ℕ) (error : EnvelopeError) → FramesStand bytes frames rest → (rest ≡ [] → ⊥) → IsFault any_reading rest error → IsRefused bytes error
refused bytes frames rest error h remains fault = record {
  line = h.line;
  body = h.body;
  header = h.header;
  fault = inr (h.object, record { frames = frames; rest = rest; stand = h.stand; remains = remains; fault = fault });
}
