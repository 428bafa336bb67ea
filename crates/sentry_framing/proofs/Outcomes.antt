-- A body has one first frame or one fault, and one verdict.
use Rattle.std.proofs.Common.{◌≡◌, ◌≢◌, ◌⊎◌, inl, inr, ℕ, List, [], ◌∷◌, ◌++◌, false, Option, Some, None, length, refl, sym, ◌∙◌, ap, ap₂, subst, append-nil, append_assoc}
use Rattle.std.proofs.lemmas.Bool.{cases_eq, cases_Bool}
use Rattle.std.proofs.lemmas.List.Elements.{All-nil, All-cons}
use Rattle.std.proofs.lemmas.Option.{same_Some}
use Rattle.sentry_json.specs.Balanced.{IsBalanced, braces}
use Rattle.sentry_framing.specs.Framing.{is_space, IsBlank, Opens, Reading, Frame, IsFirstFrame, IsShort, IsUnendedHeader, IsUnendedPayload, IsWithoutHeader, IsFault}
use Rattle.sentry_framing.specs.declared.error.EnvelopeError.{EnvelopeError}
use Rattle.sentry_framing.specs.declared.error.EnvelopeError.TheVariants.{UnexpectedEof, MissingHeader, MissingItemHeader, MissingNewline, InvalidHeader, InvalidItemHeader, InvalidItemPayload, OutOfMemory}
use Rattle.sentry_framing.proofs.Conses.{same_head, same_tail}
use Rattle.sentry_framing.proofs.Machine.{Plain, rest_after}
use Rattle.sentry_framing.proofs.Pieces.{found_inside, after_open}
use Rattle.sentry_framing.proofs.Opening.{IsDark, Space, same_opening, not_blank, no_header, refused_header, opens}
use Rattle.sentry_framing.proofs.Tails.{Tail, cut, short, unended, IsTail, tail_of, tail_is, some_tail}

-- ---- a piece or none

abbrev pub Piece : List ℕ → Type 0
Piece bytes = (piece : List ℕ) × (rest : List ℕ) × IsBalanced piece × (bytes ≡ piece ++ rest)

abbrev pub NoPiece : List ℕ → Type 0
NoPiece bytes = (piece rest : List ℕ) → IsBalanced piece → bytes ≡ piece ++ rest → ⊥

inside_or_none : (inside : List ℕ) (found : Option (List ℕ)) → rest_after inside Plain 0 ≡ found → Piece (123 ∷ inside) ⊎ NoPiece (123 ∷ inside)
inside_or_none inside (Some rest) e =
    let (s, h, parts) = found_inside inside rest e in
    inl (123 ∷ (s ++ 125 ∷ []), rest, braces h, ap (λ x. 123 ∷ x) (parts ∙ sym (append_assoc s (125 ∷ []) rest)))
inside_or_none inside None e = inr (λ piece rest h is.
    let (i, begins, found) = after_open piece rest h in
    let same : inside ≡ i = same_tail 123 123 inside i (is ∙ begins) in
    let some : rest_after inside Plain 0 ≡ Some rest = ap (λ x. rest_after x Plain 0) same ∙ found in
    cc)

pub piece_or_none : (bytes : List ℕ) → Piece bytes ⊎ NoPiece bytes
piece_or_none [] = inr (λ piece rest h is. let (i, begins, found) = after_open piece rest h in (let e : [] ≡ 123 ∷ i = is ∙ begins in cc))
piece_or_none (b ∷ bytes) = elim (cases_eq b 123) [
  | inl e ↦ subst (λ c. Piece (c ∷ bytes) ⊎ NoPiece (c ∷ bytes)) (sym e) (inside_or_none bytes (rest_after bytes Plain 0) refl)
  | inr ne ↦ inr (λ piece rest h is. let (i, begins, found) = after_open piece rest h in ne (same_head b 123 bytes i (is ∙ begins)))
]

-- ---- the white space at the front

skipped : (body : List ℕ) → (space : List ℕ) × (front : List ℕ) × IsBlank space × IsDark front × (body ≡ space ++ front)
skipped [] = ([], [], All-nil Space, (λ b more e. absurd (nil_is b more e)), refl)
  where
    nil_is : (b : ℕ) (more : List ℕ) → [] ≡ b ∷ more → ⊥
    nil_is b more e = cc
skipped (b ∷ body) = elim (cases_Bool (is_space b)) [
  | inl e ↦ let (space, front, blank, dark, parts) = skipped body in (b ∷ space, front, All-cons Space b space e blank, dark, ap (λ x. b ∷ x) parts)
  | inr e ↦ ([], b ∷ body, All-nil Space, (λ c more is. subst (λ x. is_space x ≡ false) (same_head b c body more is) e), refl)
]

-- ---- outcomes

pub data Outcome : Type 0 where
  frame : Frame → List ℕ → Outcome
  fault : EnvelopeError → Outcome

abbrev pub IsOutcome : Reading → List ℕ → Outcome → Type 0
IsOutcome reads body (frame f rest) = IsFirstFrame reads body f rest
IsOutcome reads body (fault x) = IsFault reads body x

abbrev outcome_of : List ℕ → Tail → Outcome
outcome_of header (cut payload rest) = frame (record { header = header; payload = payload }) rest
outcome_of header short = fault UnexpectedEof
outcome_of header unended = fault MissingNewline

module _ (reads : Reading) (body : List ℕ) where
  record Headed (o : Outcome) : Type 0 where
    header : List ℕ
    after : List ℕ
    stated : Option ℕ
    tail : Tail
    opening : Opens body header after
    accepted : reads header ≡ Some stated
    tails : IsTail stated after tail
    is : o ≡ outcome_of header tail

  abbrev Sort : Outcome → Type 0
  Sort o = (IsBlank body × (o ≡ fault UnexpectedEof)) ⊎ ((IsWithoutHeader reads body × (o ≡ fault InvalidItemHeader)) ⊎ Headed o)

  sort_short : IsShort reads body → Headed (fault UnexpectedEof)
  sort_short h = record {
    header = h.header.header;
    after = h.after;
    stated = Some h.stated;
    tail = short;
    opening = h.header.opens;
    accepted = h.header.accepted;
    tails = (h.left, h.begins, h.short);
    is = refl;
  }

  sort_header : IsUnendedHeader reads body → Headed (fault MissingNewline)
  sort_header h = record {
    header = h.header.header;
    after = h.after;
    stated = h.stated;
    tail = unended;
    opening = h.header.opens;
    accepted = h.header.accepted;
    tails = inl h.goes_on;
    is = refl;
  }

  sort_payload : IsUnendedPayload reads body → Headed (fault MissingNewline)
  sort_payload h = record {
    header = h.header.header;
    after = h.after;
    stated = Some (length h.payload);
    tail = unended;
    opening = h.header.opens;
    accepted = h.header.accepted;
    tails = inr (h.payload, h.tail, refl, h.parts, h.goes_on);
    is = refl;
  }

  sort_frame : (f : Frame) (rest : List ℕ) → IsFirstFrame reads body f rest → Headed (frame f rest)
  sort_frame f rest h = record {
    header = f.header;
    after = h.after;
    stated = h.stated;
    tail = cut f.payload rest;
    opening = h.opens;
    accepted = h.accepted;
    tails = (h.size, h.follows);
    is = refl;
  }

  sort_fault : (x : EnvelopeError) → IsFault reads body x → Sort (fault x)
  sort_fault UnexpectedEof (inl h) = inl (h, refl)
  sort_fault UnexpectedEof (inr h) = inr (inr (sort_short h))
  sort_fault MissingHeader h = absurd h
  sort_fault MissingItemHeader h = absurd h
  sort_fault MissingNewline (inl h) = inr (inr (sort_header h))
  sort_fault MissingNewline (inr h) = inr (inr (sort_payload h))
  sort_fault InvalidHeader h = absurd h
  sort_fault InvalidItemHeader h = inr (inl (h, refl))
  sort_fault InvalidItemPayload h = absurd h
  sort_fault OutOfMemory h = absurd h

  sort : (o : Outcome) → IsOutcome reads body o → Sort o
  sort (frame f rest) h = inr (inr (sort_frame f rest h))
  sort (fault x) h = sort_fault x h

  same_headed : (o p : Outcome) → Headed o → Headed p → o ≡ p
  same_headed o p g h =
      let (headers, afters) = same_opening body g.header h.header g.after h.after g.opening h.opening in
      let stated : g.stated ≡ h.stated = same_Some g.stated h.stated (sym g.accepted ∙ ap reads headers ∙ h.accepted) in
      let tails : g.tail ≡ h.tail = sym (tail_is g.stated g.after g.tail g.tails) ∙ ap₂ tail_of stated afters ∙ tail_is h.stated h.after h.tail h.tails in
      g.is ∙ ap₂ outcome_of headers tails ∙ sym h.is

  not_refused : (o : Outcome) → IsWithoutHeader reads body → Headed o → ⊥
  not_refused o w h = let e : Some h.stated ≡ None = sym h.accepted ∙ w.refused h.header h.after h.opening in cc

  same_sort : (o p : Outcome) → Sort o → Sort p → o ≡ p
  same_sort o p (inl g) (inl h) = g.1 ∙ sym h.1
  same_sort o p (inl g) (inr (inl h)) = absurd (h.0.remains g.0)
  same_sort o p (inl g) (inr (inr h)) = absurd (not_blank body h.header h.after h.opening g.0)
  same_sort o p (inr (inl g)) (inl h) = absurd (g.0.remains h.0)
  same_sort o p (inr (inl g)) (inr (inl h)) = g.1 ∙ sym h.1
  same_sort o p (inr (inl g)) (inr (inr h)) = absurd (not_refused p g.0 h)
  same_sort o p (inr (inr g)) (inl h) = absurd (not_blank body g.header g.after g.opening h.0)
  same_sort o p (inr (inr g)) (inr (inl h)) = absurd (not_refused o h.0 g)
  same_sort o p (inr (inr g)) (inr (inr h)) = same_headed o p g h

  -- a body has at most one outcome
  pub same_outcome : (o p : Outcome) → IsOutcome reads body o → IsOutcome reads body p → o ≡ p
  same_outcome o p g h = same_sort o p (sort o g) (sort p h)

  -- and it has one
  from_tail : (header after : List ℕ) (stated : Option ℕ) → Opens body header after → reads header ≡ Some stated → (t : Tail) → IsTail stated after t → (o : Outcome) × IsOutcome reads body o
  from_tail header after stated o r (cut payload rest) h =
      (frame (record { header = header; payload = payload }) rest, record { after = after; opens = o; stated = stated; accepted = r; size = h.0; follows = h.1 })
  from_tail header after None o r short h = absurd h
  from_tail header after (Some n) o r short h =
      (fault UnexpectedEof, inr (record { after = after; left = h.0; stated = n; header = record { header = header; opens = o; accepted = r }; begins = h.1; short = h.2 }))
  from_tail header after stated o r unended (inl h) =
      (fault MissingNewline, inl (record { after = after; stated = stated; header = record { header = header; opens = o; accepted = r }; goes_on = h }))
  from_tail header after stated o r unended (inr (payload, tail, e, parts, h)) =
      (fault MissingNewline, inr (record { after = after; payload = payload; tail = tail; header = record { header = header; opens = o; accepted = r ∙ ap Some e }; parts = parts; goes_on = h }))

  from_reading : (header after : List ℕ) → Opens body header after → (r : Option (Option ℕ)) → reads header ≡ r → IsWithoutHeader reads body ⊎ ((o : Outcome) × IsOutcome reads body o)
  from_reading header after o (Some stated) r = let (t, h) = some_tail stated after in inr (from_tail header after stated o r t h)
  from_reading header after o None r = inl (refused_header reads body header after o r)

  refused_outcome : IsWithoutHeader reads body ⊎ ((o : Outcome) × IsOutcome reads body o) → (o : Outcome) × IsOutcome reads body o
  refused_outcome (inl h) = (fault InvalidItemHeader, h)
  refused_outcome (inr h) = h

  from_front : (space front : List ℕ) → IsBlank space → IsDark front → body ≡ space ++ front → (o : Outcome) × IsOutcome reads body o
  from_front space [] blank dark parts = (fault UnexpectedEof, inl (subst IsBlank (sym (parts ∙ append-nil space)) blank))
  from_front space (b ∷ front) blank dark parts =
      let some : b ∷ front ≢ [] = λ e. cc in
      refused_outcome (elim (piece_or_none (b ∷ front)) [
        | inl p ↦ let (piece, rest, balanced, is) = p in from_reading piece rest (opens body space (b ∷ front) piece rest blank parts balanced is) (reads piece) refl
        | inr none ↦ inl (no_header reads body space (b ∷ front) blank dark some parts none)
      ])

  pub some_outcome : (o : Outcome) × IsOutcome reads body o
  some_outcome = let (space, front, blank, dark, parts) = skipped body in from_front space front blank dark parts
