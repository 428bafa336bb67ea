-- Lists that begin with an element and are the same begin with the same one, and go on alike.
use Rattle.std.proofs.Common.{◌≡◌, List, ◌∷◌}

pub same_head : {A : Type 0} (a b : A) (xs ys : List A) → a ∷ xs ≡ b ∷ ys → a ≡ b
same_head a b xs ys e = cc

pub same_tail : {A : Type 0} (a b : A) (xs ys : List A) → a ∷ xs ≡ b ∷ ys → xs ≡ ys
same_tail a b xs ys e = cc
