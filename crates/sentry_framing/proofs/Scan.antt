-- The steps of the scan, at a place of the bytes inside a piece.
use Rattle.std.proofs.Common.{◌≡◌, ℕ, ◌+◌, ◌-◌, ◌<◌, ◌≤◌, refl, Option, List, [], ◌∷◌, ◌++◌, Some, None, length, get_or, take, drop, sym, ◌∙◌, ap, subst, append_assoc, length-append, length-drop, arith}
use Rattle.std.proofs.lemmas.List.{at_drop_more, at_drop_all, take_at, drop-drop, take-append-drop, take_all}
use Rattle.sentry_json.specs.Balanced.{IsBalanced, braces, IsStringEnd}
use Rattle.sentry_framing.proofs.Conses.{same_tail}
use Rattle.sentry_framing.proofs.Machine.{Place, Plain, InString, rest_after, plain_last, plain_quote, nothing_left}
use Rattle.sentry_framing.proofs.Pieces.{found_inside, after_open, string_passes, sound_string}

module _ (s : List ℕ) (i : ℕ) (within : i < length s) where
  pub at : (place : Place) (d b : ℕ) → get_or s i 0 ≡ b → rest_after (drop i s) place d ≡ rest_after (b ∷ drop (i + 1) s) place d
  at place d b e =
      at_drop_more (λ x. rest_after x place d) s i 0 within ∙ ap (λ x. rest_after (x ∷ drop (i + 1) s) place d) e

  pub found : (bytes : List ℕ) → bytes ≡ 123 ∷ s → get_or s i 0 ≡ 125 → rest_after (drop i s) Plain 0 ≡ rest_after s Plain 0 → IsBalanced (take (i + 2) bytes)
  found bytes is last same =
      let e : rest_after s Plain 0 ≡ Some (drop (i + 1) s) = sym same ∙ at Plain 0 125 last ∙ plain_last (drop (i + 1) s) in
      let (t, h, parts) = found_inside s (drop (i + 1) s) e in
      let p : List ℕ = 123 ∷ (t ++ 125 ∷ []) in
      let whole : bytes ≡ p ++ drop (i + 1) s = is ∙ ap (λ x. 123 ∷ x) (parts ∙ sym (append_assoc t (125 ∷ []) (drop (i + 1) s))) in
      let lengths : length s ≡ length (t ++ 125 ∷ drop (i + 1) s) = ap length parts in
      let long : length p ≡ i + 2 = omega (arith, length-append t (125 ∷ drop (i + 1) s), length-append t (125 ∷ []), length-drop (i + 1) s) in
      subst IsBalanced (sym (ap (take (i + 2)) whole ∙ take_at p (drop (i + 1) s) (i + 2) long)) (braces h)

pub none : (bytes s : List ℕ) → bytes ≡ 123 ∷ s → rest_after s Plain 0 ≡ None
    → (piece rest : List ℕ) → IsBalanced piece → bytes ≡ piece ++ rest → ⊥
none bytes s is nothing piece rest h e =
    let (inside, begins, found) = after_open piece rest h in
    let parts : s ≡ inside = same_tail 123 123 s inside (sym is ∙ e ∙ begins) in
    let same_rest : rest_after s Plain 0 ≡ Some rest = ap (λ x. rest_after x Plain 0) parts ∙ found in
    cc

-- nothing closes at the end of the bytes
pub at_end : (s : List ℕ) (i d : ℕ) → length s ≤ i → rest_after (drop i s) Plain d ≡ None
at_end s i d past = at_drop_all (λ x. rest_after x Plain d) s i past ∙ nothing_left Plain d

-- the bytes after the place i, as a slice has them
after_is : (s : List ℕ) (i : ℕ) → take (length s - (i + 1)) (drop (i + 1) s) ≡ drop (i + 1) s
after_is s i = take_all _ (drop (i + 1) s) (omega (arith, length-drop (i + 1) s))

-- a string at the place i is passed over
pub over_string : (s : List ℕ) (i d len : ℕ) → i < length s → get_or s i 0 ≡ 34 → IsStringEnd (take len (take (length s - (i + 1)) (drop (i + 1) s))) → rest_after (drop i s) Plain d ≡ rest_after (drop (i + (len + 1)) s) Plain d
over_string s i d len within is h =
    let after = drop (i + 1) s in
    let ends : IsStringEnd (take len after) = subst (λ x. IsStringEnd (take len x)) (after_is s i) h in
    let left : drop len after ≡ drop (i + (len + 1)) s = drop-drop len (i + 1) s ∙ ap (λ n. drop n s) (omega arith) in
    at s i within Plain d 34 is ∙ plain_quote after d ∙ ap (λ x. rest_after x InString d) (sym (take-append-drop len after)) ∙ string_passes ends (drop len after) d ∙ ap (λ x. rest_after x Plain d) left

is_none : {A : Type 0} (o : Option A) → ((a : A) → o ≡ Some a → ⊥) → o ≡ None
is_none None h = refl
is_none (Some a) h = absurd (h a refl)

-- nothing closes after a quote where no string ends
pub no_string : (s : List ℕ) (i d : ℕ) → i < length s → get_or s i 0 ≡ 34 → ((t rest : List ℕ) → IsStringEnd t → take (length s - (i + 1)) (drop (i + 1) s) ≡ t ++ rest → ⊥) → rest_after (drop i s) Plain d ≡ None
no_string s i d within is h =
    at s i within Plain d 34 is ∙ plain_quote (drop (i + 1) s) d ∙ is_none _ (λ rest e. let c = sound_string (drop (i + 1) s) d rest e in h c.0 c.1 c.2 (after_is s i ∙ c.3))
