-- Slashes at the ends of a text.
use Rattle.std.proofs.Common.{◌≡◌, ◌≢◌, ℕ, Bool, true, false, cond, eqb, List, [], ◌∷◌, ◌++◌, reverse, refl, sym, ap, ◌∙◌}
use Rattle.std.proofs.lemmas.Bool.{eqb-true}
use Rattle.std.proofs.lemmas.List.{reverse-append, reverse-reverse}
use Rattle.sentry_keys.specs.DsnPath.{cut_front, cut_end}

pub cut_slash : (text rest : List ℕ) → text ≡ 47 ∷ rest → cut_front text ≡ cut_front rest
cut_slash text rest e = ap cut_front e

cut_other : (b : Bool) (c : ℕ) (cs : List ℕ) → (eqb c 47 ≡ b) → ((c ≡ 47) → ⊥) → cond (eqb c 47) (cut_front cs) (c ∷ cs) ≡ c ∷ cs
cut_other true c cs e other = absurd (other (eqb-true c 47 e))
cut_other false c cs e other = rw e refl

pub cut_done : (text : List ℕ) → ((rest : List ℕ) → text ≢ 47 ∷ rest) → cut_front text ≡ text
cut_done [] h = refl
cut_done (c ∷ cs) h = cut_other (eqb c 47) c cs refl (λ e. h cs (ap (λ (k : ℕ). k ∷ cs) e))

pub cut_end_done : (text : List ℕ) → ((front : List ℕ) → text ≢ front ++ 47 ∷ []) → cut_end text ≡ text
cut_end_done text h =
    ap reverse (cut_done (reverse text) (λ rest e. h (reverse rest) (sym (reverse-reverse text) ∙ ap reverse e ∙ reverse-append (47 ∷ []) rest))) ∙ reverse-reverse text
