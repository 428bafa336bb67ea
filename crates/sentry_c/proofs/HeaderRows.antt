-- The texts of a header, one after another.
use Rattle.std.proofs.Common.{◌≡◌, ℕ, List, Option, Some, None, option_copied, option_map}
use Rattle.std.specs.Borrow.{Bor}
use Rattle.sentry_tables.specs.Cell.{Cell, text}
use Rattle.sentry_tables.specs.Cells.{option_cell}
use Rattle.sentry_c.specs.Headers.{HoldsPlain, HoldsText}
use Rattle.sentry_c.specs.Misfits.{IsGrown}
use Rattle.sentry_c.specs.Texts.{IsOptionalAt}
use Rattle.sentry_c.specs.declared.texts.CurdmesaPlace.{CurdmesaPlace}
use Rattle.sentry_c.proofs.Rowed.{stands_on}

-- an optional text stands where it stood, once more texts stand behind it
pub optional_on : (old new : List ℕ) (place : CurdmesaPlace) (flag : ℕ) (o : Option (List ℕ)) → IsGrown old new → IsOptionalAt old place flag o → IsOptionalAt new place flag o
optional_on old new place flag None grown at = at
optional_on old new place flag (Some part) grown at = (stands_on old new place part grown at.0, at.1)

module _ (texts : List ℕ) (place : CurdmesaPlace) (flag : ℕ) (member : Cell) where
  -- a borrowed text is the member's
  pub copied_plain : (o : Option (Bor (List ℕ))) → option_cell (λ t. text t.now) o ≡ member → IsOptionalAt texts place flag (option_copied o) → HoldsPlain texts place flag member
  copied_plain None is at = (None, is, at)
  copied_plain (Some t) is at = (Some t.now, is, at)

  -- the text of a borrowed value is that of the member's value
  pub copied_text : {A : Type 0} (f : A → Cell) (print : A → List ℕ) (o : Option (Bor A)) → option_cell (λ x. f x.now) o ≡ member → IsOptionalAt texts place flag (option_map (λ x. print x.now) o)
      → HoldsText f print texts place flag member
  copied_text f print None is at = (None, is, at)
  copied_text f print (Some x) is at = (Some x.now, is, at)

-- a borrowed value is the member's
pub copied_value : {A : Type 0} (f : A → Cell) (P : Option A → Type 0) (member : Cell) (o : Option (Bor A)) → option_cell (λ x. f x.now) o ≡ member → P (option_map (λ x. x.now) o) → (p : Option A) × (option_cell f p ≡ member) × P p
copied_value f P member None is holds = (None, is, holds)
copied_value f P member (Some x) is holds = (Some x.now, is, holds)

-- two texts of one optional value have one flag
pub one_flag : {A : Type 0} (texts : List ℕ) (p q : CurdmesaPlace) (m n : ℕ) (f g : A → List ℕ) (o : Option A) → IsOptionalAt texts p m (option_map f o) → IsOptionalAt texts q n (option_map g o) → IsOptionalAt texts q m (option_map g o)
one_flag texts p q m n f g None first second = (second.0, second.1, first.2)
one_flag texts p q m n f g (Some x) first second = (second.0, first.1)
