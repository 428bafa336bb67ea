-- What is read of a text that is UTF-8 has texts and keys that are UTF-8.
use Rattle.std.proofs.Common.{◌≡◌, ℕ, zero, suc, ◌<◌, Bool, true, false, cond, ◌&&◌, ◌==◌, List, [], ◌∷◌, ◌++◌, length, take, drop, ◌-◌, nat_eq, Option, Some, None, IfSome, IsUtf8, Ordering, Less, Equal, Greater, nat_cmp, refl, sym, subst, append_assoc, arith, eqb-true}
use Rattle.std.specs.Prelude.{⊤}
use Rattle.std.specs.Ordering.{match_ordering}
use Rattle.std.specs.Cmp.Lexicographic.{slice_cmp}
use Rattle.json.specs.Token.{Token}
use Rattle.json.specs.Text.{content}
use Rattle.json.specs.Text as text
use Rattle.json.specs.Ascii as ascii
use Rattle.std.specs.List.{starts_with}
use Rattle.json.specs.Word.{head, ends_word, after_number, number_before, literal, word, is_operator, is_space}
use Rattle.json.specs.Lex.{Lexeme, token, comma, colon, Class, quote, backslash, operator, space, other, class, operator_lexeme, string_token, Mode, between, in_word, in_string, in_escape, lex_byte, lex, Place, fresh, after_value, after_comma, after_key, begins_colon, may_begin, may_close, if_allowed, place_token, punctuate, tokens}
use Rattle.json.specs.Json as json
use Rattle.serde_json.specs.Data.{Data, number, array, object, item, Members, no_members, member, put}
use Rattle.serde_json.specs.Read.{number_of, of_json, of_items, of_members, max_depth, read}
use Rattle.sentry_json.specs.Sound.{HasTexts, ItemsHaveTexts, MembersHaveTexts}
use Rattle.sentry_json.proofs.Options.{IfSome_map, IfSome_and_then, IfSome_any}
use Rattle.sentry_json.proofs.Regular.{read_regular}
use Rattle.sentry_json.proofs.Strings.{beside_ascii, content_is_text}

-- ---- lexemes

-- what follows each ASCII byte is UTF-8
abbrev HasTails : List ℕ → Type 0
HasTails [] = ⊤
HasTails (x ∷ xs) = (x < 128 → IsUtf8 xs) × HasTails xs

tails_after : (before rest : List ℕ) → IsUtf8 (before ++ rest) → HasTails rest
tails_after before [] u = tt
tails_after before (x ∷ xs) u = ((λ small. (beside_ascii before xs x small u).1), tails_after (before ++ x ∷ []) xs (subst IsUtf8 (sym (append_assoc before (x ∷ []) xs)) u))

abbrev TokenHasText : Token → Type 0
TokenHasText Token.begin_object = ⊤
TokenHasText Token.end_object = ⊤
TokenHasText Token.begin_array = ⊤
TokenHasText Token.end_array = ⊤
TokenHasText (Token.key s) = IsUtf8 s
TokenHasText (Token.string s) = IsUtf8 s
TokenHasText (Token.number s) = ⊤
TokenHasText (Token.boolean b) = ⊤
TokenHasText Token.null = ⊤
TokenHasText Token.bad = ⊤

abbrev TokensHaveTexts : List Token → Type 0
TokensHaveTexts [] = ⊤
TokensHaveTexts (t ∷ ts) = TokenHasText t × TokensHaveTexts ts

abbrev LexemeHasText : Lexeme → Type 0
LexemeHasText (token t) = TokenHasText t
LexemeHasText comma = ⊤
LexemeHasText colon = ⊤

abbrev LexemesHaveTexts : List Lexeme → Type 0
LexemesHaveTexts [] = ⊤
LexemesHaveTexts (l ∷ ls) = LexemeHasText l × LexemesHaveTexts ls

string_token_text : (o : Option (List ℕ)) → IfSome o IsUtf8 → TokenHasText (string_token o)
string_token_text None h = tt
string_token_text (Some s) h = h

one_of : {A : Type 0} (P : A → Type 0) (b : Bool) (x y : A) → P x → P y → P (cond b x y)
one_of P true x y h k = h
one_of P false x y h k = k

operator_text : (x : ℕ) → LexemeHasText (operator_lexeme x)
operator_text x =
    one_of LexemeHasText (x == 123) _ _ tt (one_of LexemeHasText (x == 125) _ _ tt (one_of LexemeHasText (x == 91) _ _ tt (one_of LexemeHasText (x == 93) _ _ tt (one_of LexemeHasText (x == 44) _ _ tt tt))))

or_bad : (b : Bool) (t : Token) → TokenHasText t → TokenHasText (cond b t Token.bad)
or_bad true t h = h
or_bad false t h = tt

literal_text : (name : List ℕ) (k : Token) (t : List ℕ) → TokenHasText k → TokenHasText (literal name k t)
literal_text name k t h = or_bad (starts_with nat_eq t name && ends_word (drop (length name) t)) k h

number_text : (t : List ℕ) (o : Option (List ℕ)) → TokenHasText (number_before t o)
number_text t None = tt
number_text t (Some rest) = or_bad (ends_word rest) (Token.number (take (length t - length rest) t)) tt

word_text : (t : List ℕ) → TokenHasText (word t)
unfolding word
word_text t =
    let true_word = literal ascii.true_text (Token.boolean true) t in
    let false_word = literal ascii.false_text (Token.boolean false) t in
    let null_word = literal ascii.null_text Token.null t in
    let number_word = number_before t (after_number t) in
    one_of TokenHasText (head t == 116) true_word (cond (head t == 102) false_word (cond (head t == 110) null_word number_word)) (literal_text ascii.true_text (Token.boolean true) t tt)
    (one_of TokenHasText (head t == 102) false_word (cond (head t == 110) null_word number_word) (literal_text ascii.false_text (Token.boolean false) t tt)
    (one_of TokenHasText (head t == 110) null_word number_word (literal_text ascii.null_text Token.null t tt) (number_text t (after_number t))))

abbrev IsQuote : Class → Type 0
IsQuote quote = ⊤
IsQuote backslash = ⊥
IsQuote operator = ⊥
IsQuote space = ⊥
IsQuote other = ⊥

is_quote : (a b c d : Bool) → IsQuote (cond a quote (cond b backslash (cond c operator (cond d space other)))) → a ≡ true
is_quote true b c d h = refl
is_quote false true c d h = absurd h
is_quote false false true d h = absurd h
is_quote false false false true h = absurd h
is_quote false false false false h = absurd h

lex_byte_texts : (m : Mode) (c : Class) (x : ℕ) (xs : List ℕ) (k : Mode → List Lexeme) → (IsQuote c → IsUtf8 xs) → ((next : Mode) → LexemesHaveTexts (k next)) → LexemesHaveTexts (lex_byte m c x xs k)
lex_byte_texts between quote x xs k u more = (string_token_text (content text.plain xs) (content_is_text xs (u tt)), more in_string)
lex_byte_texts between backslash x xs k u more = (tt, more in_word)
lex_byte_texts between operator x xs k u more = (operator_text x, more between)
lex_byte_texts between space x xs k u more = more between
lex_byte_texts between other x xs k u more = (word_text (x ∷ xs), more in_word)
lex_byte_texts in_word quote x xs k u more = more in_word
lex_byte_texts in_word backslash x xs k u more = more in_word
lex_byte_texts in_word operator x xs k u more = (operator_text x, more between)
lex_byte_texts in_word space x xs k u more = more between
lex_byte_texts in_word other x xs k u more = more in_word
lex_byte_texts in_string quote x xs k u more = more between
lex_byte_texts in_string backslash x xs k u more = more in_escape
lex_byte_texts in_string operator x xs k u more = more in_string
lex_byte_texts in_string space x xs k u more = more in_string
lex_byte_texts in_string other x xs k u more = more in_string
lex_byte_texts in_escape c x xs k u more = more in_string

lex_texts : (m : Mode) (xs : List ℕ) → HasTails xs → LexemesHaveTexts (lex m xs)
unfolding lex
lex_texts m [] h = tt
lex_texts m (x ∷ xs) h =
    lex_byte_texts m (class x) x xs (λ next. lex next xs) (λ q. h.0 (omega (arith, eqb-true x 34 (is_quote (x == 34) (x == 92) (is_operator x) (is_space x) q)))) (λ next. lex_texts next xs h.1)

-- ---- tokens

allowed_texts : (b : Bool) (t : Token) (k : Place → List Token) (next : Place) → TokenHasText t → ((p : Place) → TokensHaveTexts (k p)) → TokensHaveTexts (if_allowed b t k next)
allowed_texts true t k next h more = (h, more next)
allowed_texts false t k next h more = (tt, tt)

place_texts : (p : Place) (t : Token) (b : Bool) (k : Place → List Token) → TokenHasText t → ((q : Place) → TokensHaveTexts (k q)) → TokensHaveTexts (place_token p t b k)
place_texts p Token.begin_object b k h more = allowed_texts (may_begin p) Token.begin_object k fresh tt more
place_texts p Token.end_object b k h more = allowed_texts (may_close p) Token.end_object k after_value tt more
place_texts p Token.begin_array b k h more = allowed_texts (may_begin p) Token.begin_array k fresh tt more
place_texts p Token.end_array b k h more = allowed_texts (may_close p) Token.end_array k after_value tt more
place_texts p (Token.key s) b k h more = (tt, tt)
place_texts p (Token.string s) true k h more = allowed_texts (may_begin p) (Token.key s) k after_key h more
place_texts p (Token.string s) false k h more = allowed_texts (may_begin p) (Token.string s) k after_value h more
place_texts p (Token.number s) b k h more = allowed_texts (may_begin p) (Token.number s) k after_value tt more
place_texts p (Token.boolean c) b k h more = allowed_texts (may_begin p) (Token.boolean c) k after_value tt more
place_texts p Token.null b k h more = allowed_texts (may_begin p) Token.null k after_value tt more
place_texts p Token.bad b k h more = (tt, tt)

punctuate_texts : (p : Place) (ls : List Lexeme) → LexemesHaveTexts ls → TokensHaveTexts (punctuate p ls)
unfolding punctuate
punctuate_texts fresh [] h = tt
punctuate_texts after_value [] h = tt
punctuate_texts after_comma [] h = (tt, tt)
punctuate_texts after_key [] h = (tt, tt)
punctuate_texts fresh (token t ∷ ls) h = place_texts fresh t (begins_colon ls) (λ q. punctuate q ls) h.0 (λ q. punctuate_texts q ls h.1)
punctuate_texts after_value (token t ∷ ls) h = place_texts after_value t (begins_colon ls) (λ q. punctuate q ls) h.0 (λ q. punctuate_texts q ls h.1)
punctuate_texts after_comma (token t ∷ ls) h = place_texts after_comma t (begins_colon ls) (λ q. punctuate q ls) h.0 (λ q. punctuate_texts q ls h.1)
punctuate_texts after_key (token t ∷ ls) h = place_texts after_key t (begins_colon ls) (λ q. punctuate q ls) h.0 (λ q. punctuate_texts q ls h.1)
punctuate_texts fresh (comma ∷ ls) h = (tt, tt)
punctuate_texts after_value (comma ∷ ls) h = punctuate_texts after_comma ls h.1
punctuate_texts after_comma (comma ∷ ls) h = (tt, tt)
punctuate_texts after_key (comma ∷ ls) h = (tt, tt)
punctuate_texts fresh (colon ∷ ls) h = (tt, tt)
punctuate_texts after_value (colon ∷ ls) h = (tt, tt)
punctuate_texts after_comma (colon ∷ ls) h = (tt, tt)
punctuate_texts after_key (colon ∷ ls) h = punctuate_texts fresh ls h.1

tokens_texts : (bytes : List ℕ) → IsUtf8 bytes → TokensHaveTexts (tokens bytes)
tokens_texts bytes u = punctuate_texts fresh (lex between bytes) (lex_texts between bytes (tails_after [] bytes u))

-- ---- the grammar over tokens

abbrev mutual
  JsonHasTexts : json.Json → Type 0
  JsonHasTexts json.null = ⊤
  JsonHasTexts (json.boolean b) = ⊤
  JsonHasTexts (json.number s) = ⊤
  JsonHasTexts (json.string s) = IsUtf8 s
  JsonHasTexts (json.array js) = JsonItemsHaveTexts js
  JsonHasTexts (json.object ms) = JsonMembersHaveTexts ms

  JsonItemsHaveTexts : json.Items → Type 0
  JsonItemsHaveTexts json.no_items = ⊤
  JsonItemsHaveTexts (json.item j js) = JsonHasTexts j × JsonItemsHaveTexts js

  JsonMembersHaveTexts : json.Members → Type 0
  JsonMembersHaveTexts json.no_members = ⊤
  JsonMembersHaveTexts (json.member k j ms) = IsUtf8 k × JsonHasTexts j × JsonMembersHaveTexts ms

-- what was parsed, and the tokens that are left
abbrev And : {A : Type 0} → (A → Type 0) → A × List Token → Type 0
And P r = P r.0 × TokensHaveTexts r.1

abbrev Gives : {A : Type 0} → (A → Type 0) → json.Parse A → Type 0
Gives P parse = (ts : List Token) → TokensHaveTexts ts → IfSome (parse ts) (And P)

mapped : {A B : Type 0} (P : A → Type 0) (Q : B → Type 0) (f : A → B) → ((a : A) → P a → Q (f a)) → (o : Option (A × List Token)) → IfSome o (And P) → IfSome (json.parse_map f o) (And Q)
mapped P Q f g = IfSome_map (And P) (And Q) _ (λ r h. (g r.0 h.0, h.1))

end_array_texts : (ts : List Token) → TokensHaveTexts ts → IfSome (json.after_end_array ts) TokensHaveTexts
end_array_texts [] h = tt
end_array_texts (Token.begin_object ∷ ts) h = tt
end_array_texts (Token.end_object ∷ ts) h = tt
end_array_texts (Token.begin_array ∷ ts) h = tt
end_array_texts (Token.end_array ∷ ts) h = h.1
end_array_texts (Token.key s ∷ ts) h = tt
end_array_texts (Token.string s ∷ ts) h = tt
end_array_texts (Token.number s ∷ ts) h = tt
end_array_texts (Token.boolean b ∷ ts) h = tt
end_array_texts (Token.null ∷ ts) h = tt
end_array_texts (Token.bad ∷ ts) h = tt

abbrev KeyIsText : Option (List ℕ) → Type 0
KeyIsText None = ⊤
KeyIsText (Some k) = IsUtf8 k

key_texts : Gives KeyIsText json.read_key
key_texts [] h = tt
key_texts (Token.begin_object ∷ ts) h = tt
key_texts (Token.end_object ∷ ts) h = (tt, h.1)
key_texts (Token.begin_array ∷ ts) h = tt
key_texts (Token.end_array ∷ ts) h = tt
key_texts (Token.key s ∷ ts) h = (h.0, h.1)
key_texts (Token.string s ∷ ts) h = tt
key_texts (Token.number s ∷ ts) h = tt
key_texts (Token.boolean b ∷ ts) h = tt
key_texts (Token.null ∷ ts) h = tt
key_texts (Token.bad ∷ ts) h = tt

module _ (value : json.Parse json.Json) (gives : Gives JsonHasTexts value) where
  items_turn : (more : json.Parse json.Items) → Gives JsonItemsHaveTexts more → (ts : List Token) → TokensHaveTexts ts → (o : Option (List Token)) → IfSome o TokensHaveTexts → IfSome (json.items_step value more ts o) (And JsonItemsHaveTexts)
  items_turn more again ts h (Some rest) k = (tt, k)
  items_turn more again ts h None k = IfSome_and_then (And JsonHasTexts) (And JsonItemsHaveTexts) _ (λ r u. mapped JsonItemsHaveTexts JsonItemsHaveTexts (json.item r.0) (λ js v. (u.0, v)) (more r.1) (again r.1 u.1)) (value ts) (gives ts h)

  items_texts : (n : ℕ) → Gives JsonItemsHaveTexts (json.items value n)
  unfolding json.items
  items_texts zero ts h = tt
  items_texts (suc n) ts h = items_turn (json.items value n) (items_texts n) ts h (json.after_end_array ts) (end_array_texts ts h)

  members_turn : (more : json.Parse json.Members) → Gives JsonMembersHaveTexts more → (o : Option (List ℕ)) (ts : List Token) → KeyIsText o → TokensHaveTexts ts → IfSome (json.members_step value more o ts) (And JsonMembersHaveTexts)
  members_turn more again None ts k h = (tt, h)
  members_turn more again (Some key) ts k h =
      IfSome_and_then (And JsonHasTexts) (And JsonMembersHaveTexts) _ (λ r u. mapped JsonMembersHaveTexts JsonMembersHaveTexts (json.member key r.0) (λ ms v. (k, u.0, v)) (more r.1) (again r.1 u.1)) (value ts) (gives ts h)

  members_texts : (n : ℕ) → Gives JsonMembersHaveTexts (json.members value n)
  unfolding json.members
  members_texts zero ts h = tt
  members_texts (suc n) ts h = IfSome_and_then (And KeyIsText) (And JsonMembersHaveTexts) _ (λ r u. members_turn (json.members value n) (members_texts n) r.0 r.1 u.0 u.1) (json.read_key ts) (key_texts ts h)

one_level : (a : json.Parse json.Items) (o : json.Parse json.Members) → Gives JsonItemsHaveTexts a → Gives JsonMembersHaveTexts o → Gives JsonHasTexts (json.value_with a o)
one_level a o p q [] h = tt
one_level a o p q (Token.begin_object ∷ ts) h = mapped JsonMembersHaveTexts JsonHasTexts json.object (λ ms v. v) (o ts) (q ts h.1)
one_level a o p q (Token.end_object ∷ ts) h = tt
one_level a o p q (Token.begin_array ∷ ts) h = mapped JsonItemsHaveTexts JsonHasTexts json.array (λ js v. v) (a ts) (p ts h.1)
one_level a o p q (Token.end_array ∷ ts) h = tt
one_level a o p q (Token.key s ∷ ts) h = tt
one_level a o p q (Token.string s ∷ ts) h = (h.0, h.1)
one_level a o p q (Token.number s ∷ ts) h = (tt, h.1)
one_level a o p q (Token.boolean b ∷ ts) h = (tt, h.1)
one_level a o p q (Token.null ∷ ts) h = (tt, h.1)
one_level a o p q (Token.bad ∷ ts) h = tt

value_texts : (depth : ℕ) → Gives JsonHasTexts (json.value depth)
unfolding json.value
value_texts zero = one_level (λ ts. None) (λ ts. None) (λ ts h. tt) (λ ts h. tt)
value_texts (suc d) =
    one_level (λ ts. json.items (json.value d) (length ts) ts) (λ ts. json.members (json.value d) (length ts) ts)
    (λ ts h. items_texts (json.value d) (value_texts d) (length ts) ts h) (λ ts h. members_texts (json.value d) (value_texts d) (length ts) ts h)

last_texts : (r : json.Json × List Token) → And JsonHasTexts r → IfSome (json.if_last r.0 r.1) JsonHasTexts
last_texts (j, []) h = h.0
last_texts (j, t ∷ ts) h = tt

-- ---- trees

put_texts_at : (o : Ordering) (a b c : Members) → MembersHaveTexts a → MembersHaveTexts b → MembersHaveTexts c → MembersHaveTexts (match_ordering o a b c)
put_texts_at Less a b c h k l = h
put_texts_at Equal a b c h k l = k
put_texts_at Greater a b c h k l = l

pub put_texts : (k : List ℕ) (d : Data) (ms : Members) → IsUtf8 k → HasTexts d → MembersHaveTexts ms → MembersHaveTexts (put k d ms)
put_texts k d no_members u h m = (u, h, tt)
put_texts k d (member l e ms) u h m =
    put_texts_at (slice_cmp nat_cmp k l) (member k d (member l e ms)) (member l d ms) (member l e (put k d ms)) (u, h, m) (m.0, h, m.2) (m.0, m.1, put_texts k d ms u h m.2)

mutual
  data_texts : (j : json.Json) → JsonHasTexts j → IfSome (of_json j) HasTexts
  data_texts json.null h = tt
  data_texts (json.boolean b) h = tt
  data_texts (json.number s) h = IfSome_map (λ _. ⊤) HasTexts number (λ n k. tt) (number_of s) (IfSome_any (number_of s))
  data_texts (json.string s) h = h
  data_texts (json.array js) h = IfSome_map ItemsHaveTexts HasTexts array (λ ds k. k) (of_items js) (data_items_texts js h)
  data_texts (json.object ms) h = IfSome_map MembersHaveTexts HasTexts object (λ ds k. k) (of_members ms no_members) (data_members_texts ms no_members h tt)

  data_items_texts : (js : json.Items) → JsonItemsHaveTexts js → IfSome (of_items js) ItemsHaveTexts
  data_items_texts json.no_items h = tt
  data_items_texts (json.item j js) h =
      IfSome_and_then HasTexts ItemsHaveTexts _ (λ d k. IfSome_map ItemsHaveTexts ItemsHaveTexts (item d) (λ ds l. (k, l)) (of_items js) (data_items_texts js h.1)) (of_json j) (data_texts j h.0)

  data_members_texts : (ms : json.Members) (found : Members) → JsonMembersHaveTexts ms → MembersHaveTexts found → IfSome (of_members ms found) MembersHaveTexts
  data_members_texts json.no_members found h f = f
  data_members_texts (json.member k j ms) found h f =
      IfSome_and_then HasTexts MembersHaveTexts _ (λ d t. data_members_texts ms (put k d found) h.2 (put_texts k d found h.0 t f)) (of_json j) (data_texts j h.1)

-- strings and keys of what is read of UTF-8 are UTF-8
pub read_texts : (text : List ℕ) (d : Data) → IsUtf8 text → read text ≡ Some d → HasTexts d
read_texts text d u e =
    let parsed = IfSome_and_then (And JsonHasTexts) JsonHasTexts (λ p. json.if_last p.0 p.1) last_texts (json.value max_depth (tokens text)) (value_texts max_depth (tokens text) (tokens_texts text u)) in
    subst (λ o. IfSome o HasTexts) e (IfSome_and_then JsonHasTexts HasTexts of_json data_texts _ parsed)

pub ruleset what_is_read = (read_regular, read_texts)
