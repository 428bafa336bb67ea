-- Escapes in the content of a string. Only the crate's private clauses cite it.
use Rattle.std.specs.Prelude.{◌≡◌, ℕ, List, ◌∷◌, Some}
use Rattle.json.specs.Lex.{Mode, lex, in_string}
use Rattle.json.specs.Text.{Within, content, plain, prepend, code_unit}

-- the text begins with four hex digits that spell the unit, and `rest` follows
pub record IsUnit (text : List ℕ) (unit : ℕ) (rest : List ℕ) : Type 0 where
  pub a : ℕ
  pub b : ℕ
  pub c : ℕ
  pub d : ℕ
  pub digits : text ≡ a ∷ b ∷ c ∷ d ∷ rest
  pub spelled : code_unit a b c d ≡ Some unit

-- In a string, what stands in the text before `rest` is for the bytes. The first two tell what came
-- before the text.
pub record StandsFor (within : Within) (mode : Mode) (text bytes rest : List ℕ) : Type 0 where
  pub read : content within text ≡ prepend bytes (content plain rest)
  pub lexed : lex mode text ≡ lex in_string rest
