-- How a JSON value is spelled by lexemes, and what a text and the tokens for it have in common.
use Rattle.std.specs.Prelude.{◌≡◌, ◌≤◌, ◌++◌, ℕ, List, [], ◌∷◌, length, Bool, true, false, if◌then◌else◌, Some}
use Rattle.json.specs.Token as json_token
use Rattle.json.specs.Json.{Json, null, boolean, number, string, array, object, Items, no_items, item, Members, no_members, member}
use Rattle.json.specs.Lex.{Lexeme, token, comma, colon, lex, between, in_string}
use Rattle.json.specs.Text.{content, plain}
use Rattle.json.specs.Tree.{depth}
use Rattle.json.specs.Word.{ends_word}
use Rattle.serde_json.specs.Data.{Data}
use Rattle.serde_json.specs.Read.{of_json}
use Rattle.sentry_json.specs.declared.tape.token.Token.{Token}
use Rattle.sentry_json.specs.Tokens.{AreTaken, width, value_of, text_of}

-- a comma, where a value stands before
abbrev pub comma_if : Bool → List Lexeme
comma_if later = if later then comma ∷ [] else []

-- the lexemes of a value
abbrev mutual
  pub lexemes : Json → List Lexeme
  lexemes null = token json_token.null ∷ []
  lexemes (boolean b) = token (json_token.boolean b) ∷ []
  lexemes (number s) = token (json_token.number s) ∷ []
  lexemes (string s) = token (json_token.string s) ∷ []
  lexemes (array js) = token json_token.begin_array ∷ items_lexemes false js
  lexemes (object ms) = token json_token.begin_object ∷ members_lexemes false ms

  -- with the closing bracket
  pub items_lexemes : Bool → Items → List Lexeme
  items_lexemes later no_items = token json_token.end_array ∷ []
  items_lexemes later (item j js) = comma_if later ++ (lexemes j ++ items_lexemes true js)

  pub members_lexemes : Bool → Members → List Lexeme
  members_lexemes later no_members = token json_token.end_object ∷ []
  members_lexemes later (member k j ms) = comma_if later ++ (token (json_token.string k) ∷ colon ∷ (lexemes j ++ members_lexemes true ms))

-- `rest` is what is left of a text behind white space, if any; a word ends before white space
pub record IsSpaced (text rest : List ℕ) : Type 0 where
  pub lexed : lex between text ≡ lex between rest
  pub ended : ends_word rest ≡ true → ends_word text ≡ true

-- `rest` follows a byte that white space may stand before
abbrev pub IsBehind : ℕ → List ℕ → List ℕ → Type 0
IsBehind byte text rest = (front : List ℕ) × IsSpaced text front × (front ≡ byte ∷ rest)

-- `inside` is what stands behind a quote: the content, up to the closing quote, and then `rest`
pub record IsQuoted (inside content_bytes rest : List ℕ) : Type 0 where
  pub read : content plain inside ≡ Some content_bytes
  pub lexed : lex in_string inside ≡ lex between rest

-- The text begins with a value, and `rest` follows. The first token, and those inside it, are for
-- that value; whether floats are taken is told first.
pub record Spells (floats : Bool) (text rest : List ℕ) (first : Token) (inside : List Token) (most : ℕ) : Type 0 where
  pub json : Json
  -- a word, as a number, ends where a comma, a bracket or the end stands
  pub lexed : ends_word rest ≡ true → lex between text ≡ lexemes json ++ lex between rest
  pub meant : of_json json ≡ Some (value_of first inside)
  pub closed : width first ≡ length inside
  pub shallow : depth json ≤ most
  pub taken : AreTaken floats (first ∷ inside)

-- The text begins with a value, which is this tree, and `rest` follows: there are tokens for that
-- value, kept or not, and they are the tree, which has no float.
abbrev pub SpellsTree : (text rest : List ℕ) (d : Data) (most : ℕ) → Type 0
SpellsTree text rest d most = (first : Token) × (inside : List Token) × Spells false text rest first inside most × (value_of first inside ≡ d)

-- The text begins with a string of this content, and `rest` follows.
abbrev pub BeginsString : (text rest content_bytes : List ℕ) → Type 0
BeginsString text rest content_bytes = lex between text ≡ token (json_token.string content_bytes) ∷ lex between rest

-- The text begins with the string that the token has, and `rest` follows.
pub record SpellsString (text rest : List ℕ) (first : Token) : Type 0 where
  pub name : List ℕ
  pub named : text_of first ≡ Some name
  pub lexed : BeginsString text rest name
