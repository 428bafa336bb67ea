-- Envelopes of which all frames are dropped.
use Rattle.std.proofs.Common.{◌≡◌, ◌∙◌, ap, false, ℕ, Bool, List, [], ◌∷◌, refl, subst}
use Rattle.sentry_forward.specs.Forward.{dropped}
use Rattle.sentry_forward.specs.View.{decided}
use Rattle.sentry_forward.specs.declared.forwarding.Forwarded.{Forwarded}
use Rattle.sentry_forward.specs.declared.frames.AnyFrame.{AnyFrame}
use Rattle.sentry_ledger.specs.declared.loss_sums.LossSums.{LossSums}
use Rattle.sentry_c.specs.Forwarding.{IsForwardedAs, answers_by}
use Rattle.sentry_c.specs.Losses.{SumsEnvelope, SumsFrames}

-- without answers all frames are dropped
all_dropped : (frames : List AnyFrame) → dropped frames (answers_by [] frames) ≡ frames
all_dropped [] = refl
all_dropped (frame ∷ frames) = ap (λ (rest : List AnyFrame). frame ∷ rest) (all_dropped frames)

pub sums_envelope : (bytes : List ℕ) (follow : Bool) (left : Forwarded) (sums : LossSums) → follow ≡ false → IsForwardedAs bytes [] follow left → SumsFrames left.dropped.items sums → SumsEnvelope bytes sums
sums_envelope bytes follow left sums unmoved done lost =
    let all : left.dropped.items ≡ done.frames = done.gone ∙ (ap (λ (f : Bool). dropped done.frames (decided f done.frames (answers_by [] done.frames))) unmoved ∙ all_dropped done.frames) in (
      done.frames,
      record { line = done.line; body = done.left.body; header = done.left.header; object = done.object; framed = done.left.framed; named = done.named },
      subst (λ (frames : List AnyFrame). SumsFrames frames sums) all lost,
    )
