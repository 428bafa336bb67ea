-- A filter that answers by a test.
use Rattle.std.proofs.Common.{◌≡◌, ℕ, Bool, false, List, [], ◌∷◌, map, refl, ap, subst, ◌∙◌}
use Rattle.sentry_forward.specs.AnyHeader.{any_reading}
use Rattle.sentry_forward.specs.Forward.{Asked, Leaves, dropped}
use Rattle.sentry_forward.specs.View.{IsForwarded, decided, piece_of, text_of}
use Rattle.sentry_forward.specs.declared.forwarding.Forwarded.{Forwarded}
use Rattle.sentry_forward.specs.declared.frames.AnyFrame.{AnyFrame}
use Rattle.curdmesa.specs.Selecting.{IsSelected, keeps}
use Rattle.curdmesa.specs.declared.select.Selection.{Selection}

module _ {F X : Type 0} (ask : F → X → Bool → F → Type 0) (test : F → X → Bool) (answers : (f : F) (x : X) (b : Bool) (g : F) → ask f x b g → (g ≡ f) × (b ≡ test f x)) where
  pub answers_by_test : (first : F) (xs : List X) (bs : List Bool) (last : F) → Asked ask first xs bs last → bs ≡ map (test first) xs
  answers_by_test first [] [] last h = refl
  answers_by_test first [] (b ∷ bs) last h = absurd h
  answers_by_test first (x ∷ xs) [] last h = absurd h
  answers_by_test first (x ∷ xs) (b ∷ bs) last (next, h, more) =
      let step = answers first x b next h in
      ap (λ y. y ∷ bs) step.1 ∙ ap (λ ys. test first x ∷ ys) (answers_by_test next xs bs last more ∙ ap (λ f. map (test f) xs) step.0)

-- what is forwarded by such a filter is selected
pub selected : {F : Type 0} (ask : F → AnyFrame → Bool → F → Type 0) (selection : F → Selection) (follow : Bool) (bytes : List ℕ) (result : Forwarded)
    → ((f : F) (x : AnyFrame) (b : Bool) (g : F) → ask f x b g → (g ≡ f) × (b ≡ keeps (selection f) x))
    → (first last : F) → follow ≡ false → IsForwarded ask follow bytes first last result → IsSelected (selection first) bytes result
selected ask selection follow bytes result answers first last off h =
    let test : AnyFrame → Bool = keeps (selection first) in
    let told : h.answers ≡ map test h.frames = answers_by_test ask (λ f. keeps (selection f)) answers first h.frames h.answers last h.asked in
    let same : decided follow h.frames h.answers ≡ map test h.frames = ap (λ f. decided f h.frames h.answers) off ∙ told in
    record {
      line = h.line;
      frames = h.frames;
      object = h.object;
      named = h.named;
      placed = h.placed;
      left = subst (λ bs. Leaves any_reading bytes h.line (map piece_of h.frames) bs (text_of result)) same h.left;
      gone = h.gone ∙ ap (dropped h.frames) same;
      count = h.count;
    }
