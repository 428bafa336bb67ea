-- The header at the front of a body is the only one.
use Rattle.std.proofs.Common.{◌≡◌, ◌≢◌, eqb, ℕ, List, [], ◌∷◌, ◌++◌, false, true≢false, IsTrue, None, length, drop, refl, sym, ◌∙◌, ap, subst}
use Rattle.std.proofs.lemmas.List.{drop_at}
use Rattle.std.proofs.lemmas.List.Elements.{All-head, All-tail, All-drop}
use Rattle.sentry_json.specs.Balanced.{IsBalanced, braces}
use Rattle.sentry_framing.specs.Framing.{is_space, IsBlank, Opens, Reading, IsWithoutHeader}
use Rattle.sentry_framing.proofs.Conses.{same_head, same_tail}
use Rattle.sentry_framing.proofs.Pieces.{after_open, same_piece, same_rest}

-- no white space comes first
abbrev pub IsDark : List ℕ → Type 0
IsDark bytes = (b : ℕ) (more : List ℕ) → bytes ≡ b ∷ more → is_space b ≡ false

abbrev pub Space : ℕ → Type 0
Space b = IsTrue (is_space b)

clash : (x : List ℕ) (b : ℕ) (t : List ℕ) → IsDark x → Space b → x ≡ b ∷ t → ⊥
clash x b t dark blank e = true≢false (sym blank ∙ dark b t e)

-- white space is skipped in one way
pub same_dark : (s t x y : List ℕ) → IsBlank s → IsBlank t → IsDark x → IsDark y → s ++ x ≡ t ++ y → x ≡ y
same_dark [] [] x y bs bt dx dy e = e
same_dark [] (b ∷ t) x y bs bt dx dy e = absurd (clash x b (t ++ y) dx (All-head Space b t bt) e)
same_dark (b ∷ s) [] x y bs bt dx dy e = absurd (clash y b (s ++ x) dy (All-head Space b s bs) (sym e))
same_dark (b ∷ s) (c ∷ t) x y bs bt dx dy e =
    same_dark s t x y (All-tail Space b s bs) (All-tail Space c t bt) dx dy (same_tail b c (s ++ x) (t ++ y) e)

pub dark_header : {h : List ℕ} → IsBalanced h → (after : List ℕ) → IsDark (h ++ after)
dark_header (braces {s} inside) after b more e =
    subst (λ x. is_space x ≡ false) (same_head 123 b ((s ++ 125 ∷ []) ++ after) more e) refl

-- with white space skipped, the header comes first
pub at_front : (body header after space front : List ℕ) → Opens body header after → IsBlank space → IsDark front → body ≡ space ++ front → front ≡ header ++ after
at_front body header after space front o blank dark parts =
    same_dark space o.space front (header ++ after) blank o.blank dark (dark_header o.balanced after) (sym parts ∙ o.parts)

pub same_opening : (body h h' a a' : List ℕ) → Opens body h a → Opens body h' a' → (h ≡ h') × (a ≡ a')
same_opening body h h' a a' o o' =
    let e : h ++ a ≡ h' ++ a' = same_dark o.space o'.space (h ++ a) (h' ++ a') o.blank o'.blank (dark_header o.balanced a) (dark_header o'.balanced a') (sym o.parts ∙ o'.parts) in
    (same_piece h h' a a' o.balanced o'.balanced e, same_rest h h' a a' o.balanced o'.balanced e)

pub remains : (body space front : List ℕ) (b : ℕ) (more : List ℕ) → IsDark front → front ≡ b ∷ more → body ≡ space ++ front → IsBlank body → ⊥
remains body space front b more dark e parts blank =
    let tail : drop (length space) body ≡ b ∷ more = ap (drop (length space)) parts ∙ drop_at space front (length space) refl ∙ e in
    clash front b more dark (All-head Space b more (subst IsBlank tail (All-drop Space (length space) body blank))) e

-- a header stands after the white space
pub not_blank : (body header after : List ℕ) → Opens body header after → IsBlank body → ⊥
not_blank body header after o blank =
    let (inside, begins, found) = after_open header after o.balanced in
    remains body o.space (header ++ after) 123 inside (dark_header o.balanced after) begins o.parts blank

-- and no other does
pub refused_header : (reads : Reading) (body header after : List ℕ) → Opens body header after → reads header ≡ None → IsWithoutHeader reads body
refused_header reads body header after o none = record {
  remains = not_blank body header after o;
  refused = λ h a p. let (headers, afters) = same_opening body h header a after p o in ap reads headers ∙ none;
}

-- bytes are empty or not
pub cons_of : (x : List ℕ) → x ≢ [] → (b : ℕ) × (more : List ℕ) × (x ≡ b ∷ more)
cons_of [] ne = absurd (ne refl)
cons_of (b ∷ more) ne = (b, more, refl)

module _ (reads : Reading) (body space front : List ℕ) (blank : IsBlank space) (dark : IsDark front) (some : front ≢ []) (parts : body ≡ space ++ front) where
  stays : IsBlank body → ⊥
  stays = let (b, more, e) = cons_of front some in remains body space front b more dark e parts

  -- no piece stands there
  pub no_header : ((piece rest : List ℕ) → IsBalanced piece → front ≡ piece ++ rest → ⊥) → IsWithoutHeader reads body
  no_header none = record {
    remains = stays;
    refused = λ header after o. absurd (none header after o.balanced (at_front body header after space front o blank dark parts));
  }

-- one stands there
pub opens : (body space front header after : List ℕ) → IsBlank space → body ≡ space ++ front → IsBalanced header → front ≡ header ++ after → Opens body header after
opens body space front header after blank parts balanced e = record { space = space; blank = blank; balanced = balanced; parts = parts ∙ ap (λ x. space ++ x) e }

pub nonempty : (x : List ℕ) → eqb (length x) 0 ≡ false → x ≢ []
nonempty x h e = true≢false (subst (λ (y : List ℕ). eqb (length y) 0 ≡ false) e h)
