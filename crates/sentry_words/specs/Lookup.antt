-- Tables of words.
use Rattle.std.specs.Prelude.{◌≡◌, ℕ, List, [], ◌∷◌, map, Option, Some, None, if◌then◌else◌, ⊤}
use Rattle.std.specs.Str.{bytes_eq}

-- what the table has for a text, if it has the text
abbrev pub lookup : {V : Type 0} → List (List ℕ × V) → List ℕ → Option V
lookup [] text = None
lookup (row ∷ rows) text = if bytes_eq text row.0 then Some row.1 else lookup rows text

-- each variant at its word
abbrev pub by_word : {V : Type 0} → (V → List ℕ) → List V → List (List ℕ × V)
by_word word variants = map (λ v. (word v, v)) variants

-- no spelling stands twice
abbrev pub HasEachOnce : {V : Type 0} → List (List ℕ × V) → Type 0
HasEachOnce [] = ⊤
HasEachOnce (row ∷ rows) = (lookup rows row.0 ≡ None) × HasEachOnce rows
