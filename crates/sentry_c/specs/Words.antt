-- The words of item types, categories and reasons, by their numbers.
use Rattle.std.specs.Prelude.{◌≡◌, ℕ, List, Option, Some, slice_get}

-- the text is the word of what stands at the number in a list
abbrev pub IsWordAt : {A : Type 0} → List A → (A → List ℕ) → ℕ → List ℕ → Type 0
IsWordAt {A} xs word number text = (x : A) × (slice_get xs number ≡ Some x) × (text ≡ word x)

-- the number is that of what a word names
abbrev pub IsNumberOf : {A : Type 0} → Option A → (A → ℕ) → ℕ → Type 0
IsNumberOf {A} named number_of number = (x : A) × (named ≡ Some x) × (number ≡ number_of x)
