-- A balanced piece: `{`, what stands up to its `}`, and that `}`, where braces within strings do
-- not count. Each object of JSON is one, and a piece need not be JSON.
use Rattle.std.specs.Prelude.{◌≢◌, ℕ, List, [], ◌∷◌, ◌++◌}

abbrev pub quote : ℕ
quote = 34

abbrev pub backslash : ℕ
backslash = 92

abbrev pub open_brace : ℕ
open_brace = 123

abbrev pub close_brace : ℕ
close_brace = 125

-- what stands after a string's first quote: bytes up to the quote that ends it, with that quote. A
-- backslash goes with the byte after it
pub data IsStringEnd : List ℕ → Type 0 where
  closed : IsStringEnd (quote ∷ [])
  byte : {b : ℕ} {s : List ℕ} → b ≢ quote → b ≢ backslash → IsStringEnd s → IsStringEnd (b ∷ s)
  pair : {b : ℕ} {s : List ℕ} → IsStringEnd s → IsStringEnd (backslash ∷ b ∷ s)

mutual
  -- `{`, what stands inside, and `}`
  pub data IsBalanced : List ℕ → Type 0 where
    braces : {s : List ℕ} → IsInside s → IsBalanced (open_brace ∷ (s ++ close_brace ∷ []))

  -- plain bytes, strings and balanced pieces, in any order
  pub data IsInside : List ℕ → Type 0 where
    nothing : IsInside []
    plain : {b : ℕ} {s : List ℕ} → b ≢ quote → b ≢ open_brace → b ≢ close_brace → IsInside s → IsInside (b ∷ s)
    string : {t s : List ℕ} → IsStringEnd t → IsInside s → IsInside (quote ∷ (t ++ s))
    piece : {p s : List ℕ} → IsBalanced p → IsInside s → IsInside (p ++ s)
