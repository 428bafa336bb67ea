-- Parts that are written one after the other.
use Rattle.std.proofs.Common.{arith, ◌≡◌, ◌∙◌, ◌+◌, ◌<◌, ℕ, List, ◌++◌, ap, ap₂, drop, get_or, length, sym, take}
use Rattle.std.proofs.lemmas.List.{append_assoc, at_drop_more, drop-drop, drop_at, length-append, take_at}
use Rattle.std.specs.Borrow.{Bor}
use Rattle.sentry_forward.specs.View.{joined_parts}
use borrow.Rule.Slice.PartMut.{put_mid}

-- the parts before one are written; what is left of the room is as it was
abbrev pub IsPut : List (Bor (List ℕ)) → List ℕ → ℕ → ℕ → List ℕ → Type 0
IsPut parts old index at out = (front : List ℕ) × (joined_parts parts ≡ front ++ joined_parts (drop index parts))
    × (at ≡ length front) × (out ≡ front ++ drop (length front) old)

put_part : (old out front part : List ℕ) (at count : ℕ) → at ≡ length front → count ≡ length part → out ≡ front ++ drop (length front) old
    → put_mid at count out part ≡ (front ++ part) ++ drop (length (front ++ part)) old
put_part old out front part at count starts counts is =
    let rest : List ℕ = drop (length front) old in
    let head : take at out ≡ front = ap (take at) is ∙ take_at front rest at (sym starts) in
    let tail : drop count (drop at out) ≡ drop (length (front ++ part)) old =
    ap (drop count) (ap (drop at) is ∙ drop_at front rest at (sym starts)) ∙ (drop-drop count (length front) old ∙ ap (λ (n : ℕ). drop n old) (omega (arith, length-append front part, counts))) in
    ap₂ (λ (a b : List ℕ). a ++ (part ++ b)) head tail ∙ sym (append_assoc front part (drop (length (front ++ part)) old))

-- one part more is written
pub put_step : (parts : List (Bor (List ℕ))) (old out copied : List ℕ) (at index count : ℕ) (d : Bor (List ℕ)) → index < length parts → copied ≡ (get_or parts index d).now → count ≡ length (get_or parts index d).now
    → IsPut parts old index at out → IsPut parts old (index + 1) (at + length (get_or parts index d).now) (put_mid at count out copied)
put_step parts old out copied at index count d more is counts put =
    let front : List ℕ = put.0 in
    let part : List ℕ = (get_or parts index d).now in (
      front ++ part,
      put.1 ∙ (ap (λ (rest : List ℕ). front ++ rest) (at_drop_more joined_parts parts index d more) ∙ sym (append_assoc front part (joined_parts (drop (index + 1) parts)))),
      omega (arith, put.2, length-append front part),
      ap (put_mid at count out) is ∙ put_part old out front part at count put.2 counts put.3,
    )
