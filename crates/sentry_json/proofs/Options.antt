-- What holds of the value in an option, through `map`, `and_then` and a test.
use Rattle.std.proofs.Common.{◌≡◌, Bool, true, false, cond, Option, Some, None, option_map, option_and_then, IfSome, refl}

pub IfSome_map : {A B : Type 0} (P : A → Type 0) (Q : B → Type 0) (f : A → B) → ((a : A) → P a → Q (f a)) → (o : Option A) → IfSome o P → IfSome (option_map f o) Q
IfSome_map P Q f g None h = tt
IfSome_map P Q f g (Some a) h = g a h

pub IfSome_and_then : {A B : Type 0} (P : A → Type 0) (Q : B → Type 0) (f : A → Option B) → ((a : A) → P a → IfSome (f a) Q) → (o : Option A) → IfSome o P → IfSome (option_and_then f o) Q
IfSome_and_then P Q f g None h = tt
IfSome_and_then P Q f g (Some a) h = g a h

pub IfSome_cond : {A : Type 0} (P : A → Type 0) (b : Bool) (x y : Option A) → (b ≡ true → IfSome x P) → (b ≡ false → IfSome y P) → IfSome (cond b x y) P
IfSome_cond P true x y h k = h refl
IfSome_cond P false x y h k = k refl

-- nothing is said of the value
pub IfSome_any : {A : Type 0} (o : Option A) → IfSome o (λ _. Unit {0})
IfSome_any None = tt
IfSome_any (Some a) = tt
