-- Texts in the caller's room, and pieces of texts.
use Rattle.std.proofs.Common.{◌≡◌, ℕ, List, [], ◌∷◌, ◌++◌, map, refl, ap, subst, sym}
use Rattle.std.specs.Borrow.{Bor}
use Rattle.std.specs.List.{concat}
use Rattle.sentry_forward.specs.View.{joined_parts}
use Rattle.sentry_c.specs.Output.{IsTooLong, Puts}

-- pieces are parts, one after the other
pub pieces_are_parts : (pieces : List (Bor (List ℕ))) → concat (map (λ piece. piece.now) pieces) ≡ joined_parts pieces
pieces_are_parts [] = refl
pieces_are_parts (piece ∷ pieces) = ap (λ x. piece.now ++ x) (pieces_are_parts pieces)

-- P holds of the text that is put in the room, or is too long
module _ (P : List ℕ → Type 0) (given : List ℕ) (holds : P given) where
  pub puts_given : (old new : List ℕ) (told : ℕ) → Puts (λ text. text ≡ given) old new told → Puts P old new told
  puts_given old new told put = record { text = put.text; meant = subst P (sym put.meant) holds; fits = put.fits; put = put.put; length_told = put.length_told }

  pub too_long_given : (old : List ℕ) (told : ℕ) → IsTooLong (λ text. text ≡ given) old told → IsTooLong P old told
  too_long_given old told long = record { text = long.text; meant = subst P (sym long.meant) holds; longer = long.longer; length_told = long.length_told }
