-- What reading a line makes of tokens. The value at the front of a text appends those for it, if they
-- are kept.
use Rattle.std.specs.Prelude.{◌≡◌, ◌++◌, ◌∷◌, [], ℕ, Bool, List, Some, false, IsUtf8}
use Rattle.serde_json.specs.Read.{read}
use Rattle.serde_json.specs.Written.{has_float}
use Rattle.sentry_json.specs.Spelled.{Spells, SpellsString}
use Rattle.sentry_json.specs.Tokens.{kept, tokens_value}
use Rattle.sentry_json.specs.declared.tape.token.Token.{Token}

abbrev pub TakesValue : (keeps floats : Bool) (old new : List Token) (text rest : List ℕ) (most : ℕ) → Type 0
TakesValue keeps floats old new text rest most = (first : Token) × (inside : List Token) × (new ≡ old ++ kept keeps (first ∷ inside)) × Spells floats text rest first inside most

-- the value is a string, a word or a number
abbrev pub TakesLeaf : (keeps floats : Bool) (old new : List Token) (text rest : List ℕ) → Type 0
TakesLeaf keeps floats old new text rest = (leaf : Token) × (new ≡ old ++ kept keeps (leaf ∷ [])) × Spells floats text rest leaf [] 0

-- it is a string, as a key is
abbrev pub TakesString : (keeps : Bool) (old new : List Token) (text rest : List ℕ) → Type 0
TakesString keeps old new text rest = (name : Token) × (new ≡ old ++ kept keeps (name ∷ [])) × SpellsString text rest name

-- the line is UTF-8 and read as the tree that the tokens are, which has no float, unless floats are
-- taken
pub record TakesLine (floats : Bool) (line : List ℕ) (tokens : List Token) : Type 0 where
  pub utf8 : IsUtf8 line
  pub read : read line ≡ Some (tokens_value tokens)
  pub whole : floats ≡ false → has_float (tokens_value tokens) ≡ false
