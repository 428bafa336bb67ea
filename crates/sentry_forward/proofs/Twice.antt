-- What was forwarded by a test is left whole by the same test.
use Rattle.std.proofs.Common.{◌≡◌, ℕ, Bool, List, [], ◌∷◌, map, refl, sym, ap, inl, inr, subst}
use Rattle.std.proofs.lemmas.Bool.{cases_Bool}
use Rattle.sentry_framing.specs.Framing.{Reading}
use Rattle.sentry_forward.specs.Forward.{ArePieces, Leaves, Piece, joined, kept}
use Rattle.sentry_forward.proofs.Left.{left_line, left_pieces, same_pieces, whole_left}
use Rattle.sentry_framing.proofs.EnvelopeLine.{same_line}

module _ (test : Piece → Bool) where
  abbrev chosen : List Piece → List Piece
  chosen xs = kept xs (map test xs)

  again : (xs : List Piece) → chosen (chosen xs) ≡ chosen xs
  again [] = refl
  again (x ∷ xs) = elim (cases_Bool (test x)) [
    | inl holds ↦ rw holds (rw holds (ap (λ ys. x ∷ ys) (again xs)))
    | inr fails ↦ rw fails (again xs)
  ]

pub twice : (reads : Reading) (test : Piece → Bool) (bytes line : List ℕ) (pieces : List Piece) (text next : List ℕ) (others : List Piece) (last : List ℕ)
    → Leaves reads bytes line pieces (map test pieces) text → Leaves reads text next others (map test others) last → last ≡ text
twice reads test bytes line pieces text next others last a b =
    let left : List Piece = kept pieces (map test pieces) in
    let stands = left_pieces reads bytes line pieces (map test pieces) text a in
    let (lines, bodies) = same_line text next b.body line (joined left) b.header (left_line reads bytes line pieces (map test pieces) text a) in
    let same : others ≡ left = same_pieces reads (joined left) others left (subst (λ x. ArePieces reads x others) bodies b.framed) stands in
    let all : kept others (map test others) ≡ others = subst (λ (x : List Piece). kept x (map test x) ≡ x) (sym same) (again test pieces) in
    whole_left reads text next others (map test others) last b all
