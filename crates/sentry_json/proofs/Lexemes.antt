-- The lexemes of a value are read as that value.
use Rattle.std.proofs.Common.{◌≡◌, ◌≤◌, ℕ, List, [], ◌∷◌, ◌++◌, ◌==◌, length, true, false, Bool, Some, arith, option_and_then, IsUtf8, refl, sym, ap, subst, ◌∙◌, append_assoc, append-nil}
use Rattle.std.proofs.lemmas.Bool.{eqb-true}
use Rattle.json.specs.Token as json_token
use Rattle.json.specs.Json as json
use Rattle.json.specs.Json.{Json, null, boolean, number, string, array, object, Items, no_items, item, Members, no_members, member}
use Rattle.json.specs.Lex.{Lexeme, lex, between, Place, fresh, after_value, after_comma, may_begin, begins_colon, punctuate, tokens}
use Rattle.json.specs.Word.{ends_word}
use Rattle.json.specs.Tree.{json_tokens, items_tokens, members_tokens, depth}
use Rattle.json.proofs.Printed.Trees.{value-json_tokens}
use Rattle.serde_json.specs.Data.{Data}
use Rattle.serde_json.specs.Read.{of_json, max_depth, read}
use Rattle.serde_json.specs.Written.{has_float}
use Rattle.sentry_json.specs.Line.{tree_of}
use Rattle.sentry_json.proofs.Lines.{tree_of_from}
use Rattle.sentry_json.specs.Spelled.{lexemes, items_lexemes, members_lexemes, Spells}
use Rattle.sentry_json.specs.Taken.{TakesLine}
use Rattle.sentry_json.specs.Tokens.{AreTaken, tokens_value}
use Rattle.sentry_json.specs.declared.tape.token.Token.{Token}
use Rattle.sentry_json.proofs.TokenLists.{no_float}

-- no colon follows a value inside an array or an object
items_no_colon : (js : Items) (ls : List Lexeme) → begins_colon (items_lexemes true js ++ ls) ≡ false
items_no_colon no_items ls = refl
items_no_colon (item j js) ls = refl

members_no_colon : (ms : Members) (ls : List Lexeme) → begins_colon (members_lexemes true ms ++ ls) ≡ false
members_no_colon no_members ls = refl
members_no_colon (member k j ms) ls = refl

mutual
  unfolding punctuate

  value_tokens : (j : Json) (p : Place) (ls : List Lexeme) → may_begin p ≡ true → begins_colon ls ≡ false → punctuate p (lexemes j ++ ls) ≡ json_tokens j ++ punctuate after_value ls
  value_tokens null p ls may clear = rw may refl
  value_tokens (boolean b) p ls may clear = rw may refl
  value_tokens (number s) p ls may clear = rw may refl
  value_tokens (string s) p ls may clear = rw (clear, may) refl
  value_tokens (array js) p ls may clear = rw may (ap (λ ts. json_token.begin_array ∷ ts) (first_items js ls))
  value_tokens (object ms) p ls may clear = rw may (ap (λ ts. json_token.begin_object ∷ ts) (first_members ms ls))

  first_items : (js : Items) (ls : List Lexeme) → punctuate fresh (items_lexemes false js ++ ls) ≡ items_tokens js ++ punctuate after_value ls
  first_items no_items ls = refl
  first_items (item j js) ls =
      ap (punctuate fresh) (append_assoc (lexemes j) (items_lexemes true js) ls)
      ∙ value_tokens j fresh (items_lexemes true js ++ ls) refl (items_no_colon js ls)
      ∙ ap (λ ts. json_tokens j ++ ts) (more_items js ls) ∙ sym (append_assoc (json_tokens j) (items_tokens js) (punctuate after_value ls))

  more_items : (js : Items) (ls : List Lexeme) → punctuate after_value (items_lexemes true js ++ ls) ≡ items_tokens js ++ punctuate after_value ls
  more_items no_items ls = refl
  more_items (item j js) ls =
      ap (punctuate after_comma) (append_assoc (lexemes j) (items_lexemes true js) ls)
      ∙ value_tokens j after_comma (items_lexemes true js ++ ls) refl (items_no_colon js ls)
      ∙ ap (λ ts. json_tokens j ++ ts) (more_items js ls) ∙ sym (append_assoc (json_tokens j) (items_tokens js) (punctuate after_value ls))

  first_members : (ms : Members) (ls : List Lexeme) → punctuate fresh (members_lexemes false ms ++ ls) ≡ members_tokens ms ++ punctuate after_value ls
  first_members no_members ls = refl
  first_members (member k j ms) ls =
      ap (λ l. json_token.key k ∷ punctuate fresh l) (append_assoc (lexemes j) (members_lexemes true ms) ls)
      ∙ ap (λ ts. json_token.key k ∷ ts) (value_tokens j fresh (members_lexemes true ms ++ ls) refl (members_no_colon ms ls)
      ∙ ap (λ ts. json_tokens j ++ ts) (more_members ms ls) ∙ sym (append_assoc (json_tokens j) (members_tokens ms) (punctuate after_value ls)))

  more_members : (ms : Members) (ls : List Lexeme) → punctuate after_value (members_lexemes true ms ++ ls) ≡ members_tokens ms ++ punctuate after_value ls
  more_members no_members ls = refl
  more_members (member k j ms) ls =
      ap (λ l. json_token.key k ∷ punctuate fresh l) (append_assoc (lexemes j) (members_lexemes true ms) ls)
      ∙ ap (λ ts. json_token.key k ∷ ts) (value_tokens j fresh (members_lexemes true ms ++ ls) refl (members_no_colon ms ls)
      ∙ ap (λ ts. json_tokens j ++ ts) (more_members ms ls) ∙ sym (append_assoc (json_tokens j) (members_tokens ms) (punctuate after_value ls)))

line_tokens : (line : List ℕ) (j : Json) → lex between line ≡ lexemes j → tokens line ≡ json_tokens j ++ []
unfolding punctuate
line_tokens line j is = ap (punctuate fresh) (is ∙ sym (append-nil (lexemes j))) ∙ value_tokens j fresh [] refl refl

-- a line that is spelled so is read so
pub line_read : (line : List ℕ) (j : Json) (d : Data) → lex between line ≡ lexemes j → depth j ≤ max_depth → of_json j ≡ Some d → read line ≡ Some d
line_read line j d is shallow means =
    let parsed = ap (json.value max_depth) (line_tokens line j is) ∙ value-json_tokens j max_depth [] shallow in
    ap (λ o. option_and_then of_json (option_and_then (λ p. json.if_last p.0 p.1) o)) parsed ∙ means

pub no_bytes : (xs : List ℕ) → true ≡ (length xs == 0) → xs ≡ []
no_bytes [] e = refl
no_bytes (x ∷ xs) e = absurd (omega (arith, eqb-true (length (x ∷ xs)) 0 (sym e)))

-- the tokens of a value behind which the text ends
pub line_taken : {fl : Bool} (line text rest : List ℕ) (all : List Token) (first : Token) (inside : List Token) → text ≡ line → IsUtf8 line → rest ≡ [] → all ≡ first ∷ inside → Spells fl text rest first inside max_depth → TakesLine fl line all
unfolding lex
line_taken line text rest all first inside same utf8 none is s =
    let lexed : lex between line ≡ lexemes s.json =
    ap (lex between) (sym same) ∙ s.lexed (ap ends_word none) ∙ ap (λ r. lexemes s.json ++ lex between r) none ∙ append-nil (lexemes s.json) in
    record {
      utf8 = utf8;
      read = line_read line s.json (tokens_value (first ∷ inside)) lexed s.shallow s.meant ∙ ap (λ ts. Some (tokens_value ts)) (sym is);
      whole = λ without. ap (λ ts. has_float (tokens_value ts)) is ∙ no_float first inside (subst (λ b. AreTaken b (first ∷ inside)) without s.taken);
    }

-- without floats, they are its tree
pub line_tree : (line : List ℕ) (all : List Token) → TakesLine false line all → tree_of line ≡ Some (tokens_value all)
line_tree line all t = tree_of_from line (tokens_value all) t.utf8 t.read (t.whole refl)

pub parsed : (line text rest : List ℕ) (all : List Token) (first : Token) (inside : List Token) → text ≡ line → IsUtf8 line → rest ≡ [] → all ≡ first ∷ inside → Spells false text rest first inside max_depth → tree_of line ≡ Some (tokens_value all)
parsed line text rest all first inside same utf8 none is s = line_tree line all (line_taken line text rest all first inside same utf8 none is s)
