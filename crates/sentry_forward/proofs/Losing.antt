-- Whether an event or a transaction is dropped and none is kept, frame by frame.
use Rattle.std.proofs.Common.{◌≡◌, ◌&&◌, ◌||◌, ◌<◌, ◌+◌, not, ℕ, length, get_or, drop, Bool, true, false, List, [], ◌∷◌, refl, sym, ◌∙◌, ap, ap₂}
use Rattle.std.proofs.lemmas.List.{drop_more}
use Rattle.std.specs.List.{list_any}
use Rattle.sentry_forward.specs.Forward.{dropped, kept}
use Rattle.sentry_forward.specs.View.{is_main, loses_main}
use Rattle.sentry_forward.specs.declared.frames.AnyFrame.{AnyFrame}

-- what was found of the frames before `left`
pub record SoFar (frames : List AnyFrame) (answers : List Bool) (lost : Bool) (left : List AnyFrame) (told : List Bool) : Type 0 where
  pub gone : list_any is_main (dropped frames answers) ≡ (lost || list_any is_main (dropped left told))
  pub stay : list_any is_main (kept frames answers) ≡ list_any is_main (kept left told)

abbrev any_gone : List AnyFrame → List Bool → Bool
any_gone xs bs = list_any is_main (dropped xs bs)

abbrev any_stays : List AnyFrame → List Bool → Bool
any_stays xs bs = list_any is_main (kept xs bs)

pub at_next : (frames : List AnyFrame) (i : ℕ) (x : AnyFrame) → i < length frames → x ≡ get_or frames i x → drop i frames ≡ x ∷ drop (i + 1) frames
at_next frames i x more is = drop_more frames i x more ∙ ap (λ y. y ∷ drop (i + 1) frames) (sym is)

-- ---- one frame

gone_beside : (b : Bool) (x : AnyFrame) (xs : List AnyFrame) (bs : List Bool) → is_main x ≡ false → any_gone (x ∷ xs) (b ∷ bs) ≡ any_gone xs bs
gone_beside true x xs bs h = refl
gone_beside false x xs bs h = rw h refl

stay_beside : (b : Bool) (x : AnyFrame) (xs : List AnyFrame) (bs : List Bool) → is_main x ≡ false → any_stays (x ∷ xs) (b ∷ bs) ≡ any_stays xs bs
stay_beside true x xs bs h = rw h refl
stay_beside false x xs bs h = refl

or_true : (b : Bool) → (b || true) ≡ true
or_true true = refl
or_true false = refl

and_false : (b : Bool) → (b && false) ≡ false
and_false true = refl
and_false false = refl

found : (d k lost : Bool) → d ≡ (lost || false) → k ≡ false → lost ≡ (d && not k)
found d k true e f = rw (e, f) refl
found d k false e f = sym (ap (λ x. x && not k) e)

module _ (frames : List AnyFrame) (answers : List Bool) (lost : Bool) (left : List AnyFrame) (told : List Bool) (so : SoFar frames answers lost left told) where
  module _ (x : AnyFrame) (rest : List AnyFrame) (b : Bool) (more : List Bool) (is : left ≡ x ∷ rest) (told_is : told ≡ b ∷ more) where
    pub beside : is_main x ≡ false → SoFar frames answers lost rest more
    beside h = record {
      gone = so.gone ∙ ap (λ d. lost || d) (ap₂ any_gone is told_is ∙ gone_beside b x rest more h);
      stay = so.stay ∙ ap₂ any_stays is told_is ∙ stay_beside b x rest more h;
    }

    pub lost_one : is_main x ≡ true → b ≡ false → SoFar frames answers true rest more
    lost_one h no_b = record {
      gone = so.gone ∙ ap (λ d. lost || d) (ap₂ any_gone is (told_is ∙ ap (λ c. c ∷ more) no_b) ∙ ap (λ m. m || any_gone rest more) h) ∙ or_true lost;
      stay = so.stay ∙ ap₂ any_stays is (told_is ∙ ap (λ c. c ∷ more) no_b);
    }

    pub kept_one : is_main x ≡ true → b ≡ true → false ≡ loses_main frames answers
    kept_one h yes_b =
        let stays = so.stay ∙ ap₂ any_stays is (told_is ∙ ap (λ c. c ∷ more) yes_b) ∙ ap (λ m. m || any_stays rest more) h in
        sym (ap (λ k. any_gone frames answers && not k) stays ∙ and_false (any_gone frames answers))

  pub at_end : left ≡ [] → lost ≡ loses_main frames answers
  at_end none = found (any_gone frames answers) (any_stays frames answers) lost (so.gone ∙ ap (λ l. lost || any_gone l told) none) (so.stay ∙ ap (λ l. any_stays l told) none)

  none_gone : (xs : List AnyFrame) → any_gone xs [] ≡ false
  none_gone [] = refl
  none_gone (x ∷ xs) = refl

  none_stays : (xs : List AnyFrame) → any_stays xs [] ≡ false
  none_stays [] = refl
  none_stays (x ∷ xs) = refl

  pub untold : told ≡ [] → lost ≡ loses_main frames answers
  untold none =
      found (any_gone frames answers) (any_stays frames answers) lost
      (so.gone ∙ ap (λ d. lost || d) (ap (any_gone left) none ∙ none_gone left))
      (so.stay ∙ ap (any_stays left) none ∙ none_stays left)
