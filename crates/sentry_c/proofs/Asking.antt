-- What a filter that goes through a list of answers is asked.
use Rattle.std.proofs.Common.{◌≡◌, ℕ, Bool, List, [], ◌∷◌, refl, sym, subst}
use Rattle.sentry_forward.specs.Forward.{Asked}
use Rattle.sentry_forward.specs.View.{IsForwarded}
use Rattle.sentry_forward.specs.declared.forwarding.Forwarded.{Forwarded}
use Rattle.sentry_forward.specs.declared.frames.AnyFrame.{AnyFrame}
use Rattle.sentry_c.specs.Forwarding.{after_first, answers_by, first_answer, IsForwardedAs}

module _ {F : Type 0} (ask : F → AnyFrame → Bool → F → Type 0) (left : F → List ℕ)
    (step : (f : F) (x : AnyFrame) (b : Bool) (next : F) → ask f x b next → (b ≡ first_answer (left f)) × (left next ≡ after_first (left f))) where
  answers_are : (frames : List AnyFrame) (answers : List Bool) (first last : F) → Asked ask first frames answers last → answers ≡ answers_by (left first) frames
  answers_are [] [] first last asked = refl
  answers_are [] (b ∷ bs) first last asked = absurd asked
  answers_are (x ∷ xs) [] first last asked = absurd asked
  answers_are (x ∷ xs) (b ∷ bs) first last (next, one, more) =
      let here = step first x b next one in
      let rest : bs ≡ answers_by (after_first (left first)) xs = subst (λ (keep : List ℕ). bs ≡ answers_by keep xs) here.1 (answers_are xs bs next last more) in
      rw (here.0, rest) refl

  pub forwarded_as : (follow : Bool) (bytes keep : List ℕ) (first last : F) (result : Forwarded) → left first ≡ keep → IsForwarded ask follow bytes first last result → IsForwardedAs bytes keep follow result
  forwarded_as follow bytes keep first last result starts done =
      let are : done.answers ≡ answers_by keep done.frames = subst (λ (k : List ℕ). done.answers ≡ answers_by k done.frames) starts (answers_are done.frames done.answers first last done.asked) in
      record {
        line = done.line;
        frames = done.frames;
        object = done.object;
        named = done.named;
        placed = done.placed;
        left = rw (sym are) done.left;
        gone = rw (sym are) done.gone;
        count = done.count;
      }
