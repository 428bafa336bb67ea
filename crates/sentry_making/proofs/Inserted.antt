-- A member `length` that is put in front of the members of an object.
use Rattle.std.proofs.Common.{◌≡◌, ◌≢◌, ◌^◌, ◌<◌, ◌-◌, ℕ, zero, suc, Bool, true, false, true≢false, List, [], ◌∷◌, ◌++◌, length, Option, Some, None, option_map, option_and_then, refl, sym, ap, ap₂, ◌∙◌, subst, arith, append_assoc, decimal}
use Rattle.std.specs.Prelude.{codes, if◌then◌else◌}
use Rattle.std.specs.Str.{bytes_eq}
use Rattle.std.proofs.lemmas.Option.{same_Some}
use Rattle.json.specs.Token as token
use Rattle.json.specs.Token.{Token}
use Rattle.json.specs.Json as json
use Rattle.json.specs.Json.{Parse, parse_map, read_key, members, members_step, value, if_last}
use Rattle.json.specs.Lex.{Lexeme, lex, between, in_string, string_token, comma, colon, Place, fresh, after_value, after_comma, begins_colon, place_token, punctuate, tokens}
use Rattle.json.specs.Lex as lexing
use Rattle.json.specs.Print.{escape, quoted}
use Rattle.json.proofs.Grammar.{value-begin_object, value_is, members_more}
use Rattle.json.proofs.Printed.Decimals.{IsNumber-decimal}
use Rattle.json.proofs.Printed.Numbers.{lex-number}
use Rattle.json.proofs.Printed.Strings.{content-escape, lex-escape}
use Rattle.serde_json.specs.Data.{Data, Members, no_members, object, number, unsigned, put}
use Rattle.serde_json.specs.Find.{get, get_member}
use Rattle.serde_json.specs.Read.{of_json, of_members, max_depth, read}
use Rattle.serde_json.proofs.Numbers.{number_of-decimal}
use Rattle.sentry_json.proofs.AtKeys.{found_one}

abbrev pub length_key : List ℕ
length_key = codes "length"

abbrev pub type_key : List ℕ
type_key = codes "type"

-- ---- members at the front

abbrev begins_key : List Token → Bool
begins_key [] = false
begins_key (token.begin_object ∷ ts) = false
begins_key (token.end_object ∷ ts) = false
begins_key (token.begin_array ∷ ts) = false
begins_key (token.end_array ∷ ts) = false
begins_key (token.key s ∷ ts) = true
begins_key (token.string s ∷ ts) = false
begins_key (token.number s ∷ ts) = false
begins_key (token.boolean b ∷ ts) = false
begins_key (token.null ∷ ts) = false
begins_key (token.bad ∷ ts) = false

no : {A : Type 0} → false ≡ true → A
no e = absurd (true≢false (sym e))

-- what begins with a key may also stand behind a comma
behind_comma : (ls : List Lexeme) → begins_key (punctuate fresh ls) ≡ true → punctuate after_comma ls ≡ punctuate fresh ls
unfolding punctuate
behind_comma [] h = no h
behind_comma (lexing.comma ∷ ls) h = no h
behind_comma (lexing.colon ∷ ls) h = no h
behind_comma (lexing.token token.begin_object ∷ ls) h = refl
behind_comma (lexing.token token.end_object ∷ ls) h = no h
behind_comma (lexing.token token.begin_array ∷ ls) h = refl
behind_comma (lexing.token token.end_array ∷ ls) h = no h
behind_comma (lexing.token (token.key s) ∷ ls) h = no h
behind_comma (lexing.token (token.string s) ∷ ls) h = at (begins_colon ls)
  where
    at : (b : Bool) → place_token after_comma (token.string s) b (λ next. punctuate next ls) ≡ place_token fresh (token.string s) b (λ next. punctuate next ls)
    at true = refl
    at false = refl
behind_comma (lexing.token (token.number s) ∷ ls) h = refl
behind_comma (lexing.token (token.boolean b) ∷ ls) h = refl
behind_comma (lexing.token token.null ∷ ls) h = refl
behind_comma (lexing.token token.bad ∷ ls) h = refl

not_none : {A : Type 0} (k : List ℕ) (j : json.Json) (ms : json.Members) → json.member k j ms ≡ json.no_members → A
not_none k j ms e = cc

-- the members of an object that has some begin with a key
first_key : (p : Parse json.Json) (n : ℕ) (ts r : List Token) (k : List ℕ) (j : json.Json) (ms : json.Members) → members p n ts ≡ Some (json.member k j ms, r) → begins_key ts ≡ true
unfolding members
first_key p zero ts r k j ms e = cc
first_key p (suc n) [] r k j ms e = cc
first_key p (suc n) (token.begin_object ∷ ts) r k j ms e = cc
first_key p (suc n) (token.end_object ∷ ts) r k j ms e = not_none k j ms (ap (λ (q : json.Members × List Token). q.0) (same_Some (json.member k j ms, r) (json.no_members, ts) (sym e)))
first_key p (suc n) (token.begin_array ∷ ts) r k j ms e = cc
first_key p (suc n) (token.end_array ∷ ts) r k j ms e = cc
first_key p (suc n) (token.key s ∷ ts) r k j ms e = refl
first_key p (suc n) (token.string s ∷ ts) r k j ms e = cc
first_key p (suc n) (token.number s ∷ ts) r k j ms e = cc
first_key p (suc n) (token.boolean b ∷ ts) r k j ms e = cc
first_key p (suc n) (token.null ∷ ts) r k j ms e = cc
first_key p (suc n) (token.bad ∷ ts) r k j ms e = cc

-- one more turn gives the same
abbrev Stays : Parse json.Json → ℕ → Type 0
Stays p n = (ts : List Token) (r : json.Members × List Token) → members p n ts ≡ Some r → members p (suc n) ts ≡ Some r

module _ (p : Parse json.Json) (n : ℕ) (more : Stays p n) (r : json.Members × List Token) where
  in_rest : (k : List ℕ) (ts : List Token) (j : json.Json) (o : Option (json.Members × List Token)) → members p n ts ≡ o → parse_map (json.member k j) o ≡ Some r
      → parse_map (json.member k j) (members p (suc n) ts) ≡ Some r
  in_rest k ts j None is e = cc
  in_rest k ts j (Some s) is e = ap (parse_map (json.member k j)) (more ts s is) ∙ e

  in_value : (k : List ℕ) (o : Option (json.Json × List Token)) → option_and_then (λ q. parse_map (json.member k q.0) (members p n q.1)) o ≡ Some r
      → option_and_then (λ q. parse_map (json.member k q.0) (members p (suc n) q.1)) o ≡ Some r
  in_value k None e = cc
  in_value k (Some q) e = in_rest k q.1 q.0 (members p n q.1) refl e

  in_step : (o : Option (Option (List ℕ) × List Token)) → option_and_then (λ q. members_step p (members p n) q.0 q.1) o ≡ Some r → option_and_then (λ q. members_step p (members p (suc n)) q.0 q.1) o ≡ Some r
  in_step None e = cc
  in_step (Some (None, ts)) e = e
  in_step (Some (Some k, ts)) e = in_value k (p ts) e

pub more_turns : (p : Parse json.Json) (n : ℕ) → Stays p n
unfolding members
more_turns p zero ts r e = cc
more_turns p (suc n) ts r e = in_step p n (more_turns p n) r (read_key ts) e

-- ---- the value of the members

abbrev stated : ℕ → Data
stated n = number (unsigned n)

-- One has the type of the other, and a length where the other has none.
record Follows (n : ℕ) (before now : Members) : Type 0 where
  pub type_is : get_member type_key now ≡ get_member type_key before
  pub length_is : get_member length_key before ≡ None → get_member length_key now ≡ Some (stated n)

begun : (n : ℕ) → Follows n no_members (put length_key (stated n) no_members)
begun n = record { type_is = refl; length_is = λ _. refl }

put_length : (n : ℕ) (k : List ℕ) (d : Data) (a b : Members) → Follows n a b → (c : Bool) → bytes_eq k length_key ≡ c → get_member length_key (put k d a) ≡ None → get_member length_key (put k d b) ≡ Some (stated n)
put_length n k d a b h true is none = let e : Some d ≡ None = sym (found_one length_key k d a ∙ ap (λ c. if c then Some d else get_member length_key a) is) ∙ none in cc
put_length n k d a b h false is none =
    let same : (ms : Members) → get_member length_key (put k d ms) ≡ get_member length_key ms = λ ms. found_one length_key k d ms ∙ ap (λ c. if c then Some d else get_member length_key ms) is in
    same b ∙ h.length_is (sym (same a) ∙ none)

put_more : (n : ℕ) (k : List ℕ) (d : Data) (a b : Members) → Follows n a b → Follows n (put k d a) (put k d b)
put_more n k d a b h = record {
  type_is = found_one type_key k d b ∙ ap (λ o. if bytes_eq k type_key then Some d else o) h.type_is ∙ sym (found_one type_key k d a);
  length_is = put_length n k d a b h (bytes_eq k length_key) refl;
}

abbrev Read : ℕ → json.Members → Members → Members → Type 0
Read n ms b x = (y : Members) × (of_members ms b ≡ Some y) × Follows n x y

abbrev Reads : ℕ → json.Members → Type 0
Reads n ms = (a b x : Members) → of_members ms a ≡ Some x → Follows n a b → Read n ms b x

one_member : (n : ℕ) (k : List ℕ) (ms : json.Members) (a b x : Members) (o : Option Data) → Reads n ms → option_and_then (λ d. of_members ms (put k d a)) o ≡ Some x → Follows n a b
    → (y : Members) × (option_and_then (λ d. of_members ms (put k d b)) o ≡ Some y) × Follows n x y
one_member n k ms a b x None others e h = cc
one_member n k ms a b x (Some d) others e h = others (put k d a) (put k d b) x e (put_more n k d a b h)

all_members : (n : ℕ) (ms : json.Members) → Reads n ms
all_members n json.no_members a b x e h = (b, refl, subst (λ y. Follows n y b) (same_Some a x e) h)
all_members n (json.member k j ms) a b x e h = one_member n k ms a b x (of_json j) (all_members n ms) e h

-- ---- the text

lex_quoted : (s r : List ℕ) → lex between (quoted s ++ r) ≡ lexing.token (token.string s) ∷ lex between r
unfolding lex
lex_quoted s r =
    ap (λ l. lex between (34 ∷ l)) (append_assoc (escape s) (34 ∷ []) r) ∙ ap₂ (λ o l. lexing.token (string_token o) ∷ l) (content-escape s r) (lex-escape s r)

-- with a member `length` in front
abbrev pub with_stated : ℕ → List ℕ → List ℕ
with_stated n inside = 123 ∷ (quoted length_key ++ 58 ∷ (decimal n ++ 44 ∷ inside))

module _ (n : ℕ) (fits : n < 2 ^ 64) (inside : List ℕ) where
  abbrev ahead : List Lexeme → List Lexeme
  ahead ls = lexing.token token.begin_object ∷ lexing.token (token.string length_key) ∷ colon ∷ lexing.token (token.number (decimal n)) ∷ comma ∷ ls

  lexed : lex between (with_stated n inside) ≡ ahead (lex between inside)
  unfolding lex
  lexed =
      ap (λ l. lexing.token token.begin_object ∷ l) (lex_quoted length_key (58 ∷ (decimal n ++ 44 ∷ inside))
      ∙ ap (λ l. lexing.token (token.string length_key) ∷ colon ∷ l) (lex-number (decimal n) (44 ∷ inside) (IsNumber-decimal n fits) refl))

  abbrev plain : List Token
  plain = punctuate fresh (lex between inside)

  opened : tokens (123 ∷ inside) ≡ token.begin_object ∷ plain
  unfolding lex punctuate
  opened = refl

  punctuated : (ls : List Lexeme) → punctuate fresh (ahead ls) ≡ token.begin_object ∷ token.key length_key ∷ token.number (decimal n) ∷ punctuate after_comma ls
  unfolding punctuate
  punctuated ls = refl

  abbrev longer : List Token
  longer = token.key length_key ∷ token.number (decimal n) ∷ plain

  reopened : begins_key plain ≡ true → tokens (with_stated n inside) ≡ token.begin_object ∷ longer
  reopened keyed = ap (punctuate fresh) lexed ∙ punctuated (lex between inside) ∙ ap (λ ts. token.begin_object ∷ token.key length_key ∷ token.number (decimal n) ∷ ts) (behind_comma (lex between inside) keyed)

  abbrev inner : Parse json.Json
  inner = value 126

  -- what is read of the tokens of an object
  abbrev meant : Option (json.Members × List Token) → Option Data
  meant o = option_and_then of_json (option_and_then (λ p. if_last p.0 p.1) (parse_map json.object o))

  was_read : read (123 ∷ inside) ≡ meant (members inner (length plain) plain)
  was_read = ap (λ ts. option_and_then of_json (option_and_then (λ p. if_last p.0 p.1) (value max_depth ts))) opened ∙ ap (λ o. option_and_then of_json (option_and_then (λ p. if_last p.0 p.1) o)) (value-begin_object 127 plain (omega arith))

  is_read : begins_key plain ≡ true → read (with_stated n inside) ≡ meant (members inner (length longer) longer)
  is_read keyed =
      ap (λ ts. option_and_then of_json (option_and_then (λ p. if_last p.0 p.1) (value max_depth ts))) (reopened keyed)
      ∙ ap (λ o. option_and_then of_json (option_and_then (λ p. if_last p.0 p.1) o)) (value-begin_object 127 longer (omega arith))

  number_read : inner (token.number (decimal n) ∷ plain) ≡ Some (json.number (decimal n), plain)
  number_read = value_is 126 (token.number (decimal n) ∷ plain)

  with_first : (r : json.Members × List Token) → members inner (length plain) plain ≡ Some r → members inner (length longer) longer ≡ Some (json.member length_key (json.number (decimal n)) r.0, r.1)
  with_first r e =
      let less : length longer - 1 ≡ suc (length plain) = omega arith in
      members_more inner (length longer) length_key longer (token.number (decimal n) ∷ plain) plain (json.number (decimal n)) (omega arith) refl number_read
      ∙ ap (λ m. parse_map (json.member length_key (json.number (decimal n))) (members inner m plain)) less
      ∙ ap (parse_map (json.member length_key (json.number (decimal n)))) (more_turns inner (length plain) plain r e)

  number_meant : of_json (json.number (decimal n)) ≡ Some (stated n)
  number_meant = ap (option_map number) (number_of-decimal n fits)

  -- Some object has a type, and the same members behind a length are read as an object with that
  -- type, and with the length where the first has none.
  pub record IsRead (d : Data) : Type 0 where
    pub found : Members
    pub read_is : read (with_stated n inside) ≡ Some (object found)
    pub type_is : get_member type_key found ≡ get type_key d
    pub length_is : get length_key d ≡ None → get_member length_key found ≡ Some (stated n)

  module _ (d : Data) (typed : get type_key d ≢ None) where
    of_object : (ms : json.Members) → members inner (length plain) plain ≡ Some (ms, []) → (x : Members) → of_members ms no_members ≡ Some x → object x ≡ d → IsRead d
    of_object json.no_members e x is same = absurd (typed (ap (get type_key) (sym same) ∙ ap (get_member type_key) (sym (same_Some no_members x is))))
    of_object (json.member k j ms) e x is same =
        let keyed = first_key inner (length plain) plain [] k j ms e in
        let (y, reads, follows) = all_members n (json.member k j ms) no_members (put length_key (stated n) no_members) x is (begun n) in
        let whole : of_json (json.object (json.member length_key (json.number (decimal n)) (json.member k j ms))) ≡ Some (object y) =
        ap (λ o. option_map object (option_and_then (λ v. of_members (json.member k j ms) (put length_key v no_members)) o)) number_meant ∙ ap (option_map object) reads in
        record {
          found = y;
          read_is = is_read keyed ∙ ap meant (with_first (json.member k j ms, []) e) ∙ whole;
          type_is = follows.type_is ∙ ap (get type_key) same;
          length_is = λ none. follows.length_is (ap (get length_key) same ∙ none);
        }

    of_all : (ms : json.Members) → members inner (length plain) plain ≡ Some (ms, []) → (o : Option Members) → of_members ms no_members ≡ o → option_map object o ≡ Some d → IsRead d
    of_all ms e None is same = cc
    of_all ms e (Some x) is same = of_object ms e x is (same_Some (object x) d same)

    of_parsed : (o : Option (json.Members × List Token)) → members inner (length plain) plain ≡ o → meant o ≡ Some d → IsRead d
    of_parsed None e is = cc
    of_parsed (Some (ms, [])) e is = of_all ms e (of_members ms no_members) refl is
    of_parsed (Some (ms, t ∷ r)) e is = cc

    pub read_with_length : read (123 ∷ inside) ≡ Some d → IsRead d
    read_with_length is = of_parsed (members inner (length plain) plain) refl (sym was_read ∙ is)
