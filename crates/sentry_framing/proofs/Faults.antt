-- The frame and the faults behind an accepted header.
use Rattle.std.proofs.Common.{◌≡◌, ℕ, ◌<◌, List, [], ◌∷◌, ◌++◌, Option, Some, None, length, inl, inr, refl, sym, ◌∙◌, ap, append-nil}
use Rattle.sentry_json.specs.Line.{newline}
use Rattle.sentry_framing.specs.Framing.{EndsLine, GoesOn, Opens, Reading, CutsPayload, HasSize, Follows, IsFirstFrame, IsShort, IsUnendedHeader, IsUnendedPayload}

not_nil : (tail : List ℕ) → GoesOn tail → tail ≡ [] → ⊥
not_nil tail (b, more, e, ne) nil = let f : b ∷ more ≡ [] = sym e ∙ nil in cc

not_line : (tail next : List ℕ) → GoesOn tail → EndsLine tail next → ⊥
not_line tail next h (inl (nil, e)) = not_nil tail h nil
not_line tail next (b, more, e, ne) (inr f) = let g : b ∷ more ≡ newline ∷ next = sym e ∙ f in ne cc

end_of : (p tail : List ℕ) → p ++ tail ≡ [] → tail ≡ []
end_of [] tail e = e
end_of (b ∷ p) tail e = absurd cc

pub header_fault : (reads : Reading) (body header after : List ℕ) → Opens body header after → (stated : Option ℕ) → reads header ≡ Some stated → GoesOn after → IsUnendedHeader reads body
header_fault reads body header after o stated r h = record { after = after; stated = stated; header = record { header = header; opens = o; accepted = r }; goes_on = h }

size_of : (stated : Option ℕ) (left payload tail : List ℕ) → CutsPayload stated left payload tail → HasSize stated payload
size_of None left payload tail h = h.1
size_of (Some n) left payload tail h = h.1

parts_of : (stated : Option ℕ) (left payload tail : List ℕ) → CutsPayload stated left payload tail → left ≡ payload ++ tail
parts_of None left payload tail h = h.0
parts_of (Some n) left payload tail h = h.0

nothing_before : (p tail : List ℕ) → p ++ tail ≡ [] → p ≡ []
nothing_before [] tail e = refl
nothing_before (b ∷ p) tail e = absurd cc

rest_of : (tail rest : List ℕ) → EndsLine tail rest → tail ≡ [] → rest ≡ []
rest_of tail rest (inl h) nil = h.1
rest_of tail rest (inr e) nil = let f : newline ∷ rest ≡ [] = sym e ∙ nil in absurd cc

follows_of : (after left payload tail rest : List ℕ) → EndsLine after left → left ≡ payload ++ tail → EndsLine tail rest → Follows after payload rest
follows_of after left payload tail rest (inl h) parts ends =
    let nil : payload ++ tail ≡ [] = sym parts ∙ h.1 in
    inl (h.0, nothing_before payload tail nil, rest_of tail rest ends (end_of payload tail nil))
follows_of after left payload tail rest (inr e) parts (inl h) =
    inr (inl (e ∙ ap (λ x. newline ∷ x) (parts ∙ ap (λ x. payload ++ x) h.0 ∙ append-nil payload), h.1))
follows_of after left payload tail rest (inr e) parts (inr f) =
    inr (inr (e ∙ ap (λ x. newline ∷ x) (parts ∙ ap (λ x. payload ++ x) f)))

module _ (reads : Reading) (body header after left : List ℕ) (o : Opens body header after) (ends : EndsLine after left) where
  pub short_fault : (stated : Option ℕ) (len : ℕ) → reads header ≡ Some stated → stated ≡ Some len → length left < len → IsShort reads body
  short_fault stated len r is less =
      record { after = after; left = left; stated = len; header = record { header = header; opens = o; accepted = r ∙ ap Some is }; begins = ends; short = less }

  pub payload_fault : (stated : Option ℕ) (payload tail : List ℕ) → reads header ≡ Some stated → CutsPayload stated left payload tail → GoesOn tail → IsUnendedPayload reads body
  payload_fault None payload tail r (parts, line, (next, e)) h = absurd (not_line tail next h e)
  payload_fault (Some n) payload tail r (parts, long) h =
      record {
        after = after;
        payload = payload;
        tail = tail;
        header = record { header = header; opens = o; accepted = r ∙ ap (λ m. Some (Some m)) (sym long) };
        parts = elim ends [ inl e ↦ absurd (not_nil tail h (end_of payload tail (sym parts ∙ e.1))) | inr e ↦ e ∙ ap (λ x. newline ∷ x) parts ];
        goes_on = h;
      }

  pub first_frame : (stated : Option ℕ) (payload tail rest : List ℕ) → reads header ≡ Some stated → CutsPayload stated left payload tail → EndsLine tail rest
      → IsFirstFrame reads body (record { header = header; payload = payload }) rest
  first_frame stated payload tail rest r cuts tail_ends = record {
    after = after;
    opens = o;
    stated = stated;
    accepted = r;
    size = size_of stated left payload tail cuts;
    follows = follows_of after left payload tail rest ends (parts_of stated left payload tail cuts) tail_ends;
  }
