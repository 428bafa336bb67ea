-- The items of an array and the members of an object, one after the other: whatever the rest has,
-- the whole has those so far and then these.
use Rattle.std.proofs.Common.{◌≡◌, ◌≤◌, ◌<◌, ◌-◌, ℕ, List, [], ◌∷◌, ◌++◌, length, slice_set, if◌then◌else◌, true, false, true≢false, Bool, subst, Some, option_map, option_and_then, refl, sym, ap, ap₂, ◌∙◌, arith, append_assoc, append-nil, length-append, drop, take_at, not, ◌==◌}
use Rattle.std.proofs.lemmas.Bool.{eqb-true}
use Rattle.std.proofs.lemmas.List.{drop_at}
use Rattle.json.specs.Token as json_token
use Rattle.json.specs.Json.{Json, array, object, Items, no_items, item, Members, no_members, member}
use Rattle.json.specs.Lex.{Lexeme, token, comma, colon, lex, between}
use Rattle.json.specs.Tree.{items_depth, members_depth}
use Rattle.json.specs.Word.{ends_word}
use Rattle.serde_json.specs.Data as serde
use Rattle.serde_json.specs.Read.{of_json, of_items, of_members}
use Rattle.sentry_json.specs.Spelled.{lexemes, items_lexemes, members_lexemes, IsBehind, IsSpaced, Spells, SpellsString}
use Rattle.sentry_json.specs.Tokens.{AreTaken, kept, width, text_of, value_of, items_by, items_of, members_by, members_of}
use Rattle.sentry_json.specs.declared.tape.token.Token.{Token}
use Rattle.sentry_json.specs.declared.tape.token.Token.TheVariants as value
use Rattle.sentry_json.proofs.TokenLists.{taken_append, items_next, members_next, value_array, value_object}
use Rattle.sentry_json.proofs.WordsAndTexts.{text_taken}

-- a comma in front, where a value stands before
abbrev begins_comma : List Lexeme → Bool
begins_comma [] = false
begins_comma (comma ∷ ls) = true
begins_comma (colon ∷ ls) = false
begins_comma (token t ∷ ls) = false

-- What was read of an array: `text` follows the bracket, `ahead` are the lexemes that come, with a
-- comma before a value, and `done` are the tokens so far.
pub record ItemsSoFar (floats : Bool) (text : List ℕ) (ahead : List Lexeme) (done : List Token) (most : ℕ) : Type 0 where
  pub add : Items → Items
  pub spelled : (js : Items) (r : List Lexeme) → ahead ≡ items_lexemes true js ++ r → comma ∷ lex between text ≡ items_lexemes true (add js) ++ r
  pub meant : (js : Items) (ts : List Token) → of_items js ≡ Some (items_of ts) → of_items (add js) ≡ Some (items_of (done ++ ts))
  pub shallow : (js : Items) → items_depth js ≤ most → items_depth (add js) ≤ most
  pub taken : AreTaken floats done

first_items : (js : Items) (l r : List Lexeme) → comma ∷ l ≡ items_lexemes true js ++ r → l ≡ items_lexemes false js ++ r
first_items no_items l r e = absurd (true≢false (ap begins_comma e))
first_items (item j js) l r e = ap (drop 1) e

item_means : (first : Token) (inside ts : List Token) (j : Json) (js : Items) → width first ≡ length inside → of_json j ≡ Some (value_of first inside) → of_items js ≡ Some (items_of ts) → of_items (item j js) ≡ Some (items_of (first ∷ (inside ++ ts)))
item_means first inside ts j js closed one more =
    ap₂ (λ o p. option_and_then (λ d. option_map (serde.item d) p) o) one more
    ∙ ap Some (sym (items_next first (inside ++ ts) ∙ ap₂ (λ us vs. serde.item (value_of first us) (items_of vs)) (take_at inside ts (width first) (sym closed)) (drop_at inside ts (width first) (sym closed))))

-- What was read of an object, as `ItemsSoFar` of an array.
pub record MembersSoFar (floats : Bool) (text : List ℕ) (ahead : List Lexeme) (done : List Token) (most : ℕ) : Type 0 where
  pub add : Members → Members
  pub spelled : (ms : Members) (r : List Lexeme) → ahead ≡ members_lexemes true ms ++ r → comma ∷ lex between text ≡ members_lexemes true (add ms) ++ r
  pub meant : (ms : Members) (ts : List Token) → ((before : serde.Members) → of_members ms before ≡ Some (members_of ts before)) → (before : serde.Members) → of_members (add ms) before ≡ Some (members_of (done ++ ts) before)
  pub shallow : (ms : Members) → members_depth ms ≤ most → members_depth (add ms) ≤ most
  pub taken : AreTaken floats done

first_members : (ms : Members) (l r : List Lexeme) → comma ∷ l ≡ members_lexemes true ms ++ r → l ≡ members_lexemes false ms ++ r
first_members no_members l r e = absurd (true≢false (ap begins_comma e))
first_members (member k j ms) l r e = ap (drop 1) e

member_means : (key first : Token) (inside ts : List Token) (k : List ℕ) (j : Json) (ms : Members) → text_of key ≡ Some k → width first ≡ length inside → of_json j ≡ Some (value_of first inside) → ((before : serde.Members) → of_members ms before ≡ Some (members_of ts before)) → (before : serde.Members) → of_members (member k j ms) before ≡ Some (members_of (key ∷ first ∷ (inside ++ ts)) before)
member_means key first inside ts k j ms named closed one more before =
    ap (option_and_then (λ d. of_members ms (serde.put k d before))) one
    ∙ more (serde.put k (value_of first inside) before)
    ∙ ap Some (sym (members_next key first (inside ++ ts) k before named ∙ ap₂ (λ us vs. members_of vs (serde.put k (value_of first us) before)) (take_at inside ts (width first) (sym closed)) (drop_at inside ts (width first) (sym closed))))

-- a key and its colon were read behind the members that were done
pub record KeySoFar (floats : Bool) (text left : List ℕ) (all : List Token) (most : ℕ) : Type 0 where
  pub ahead : List Lexeme
  pub done : List Token
  pub so : MembersSoFar floats text (comma ∷ ahead) done most
  pub name : List ℕ
  pub lexed : ahead ≡ token (json_token.string name) ∷ colon ∷ lex between left
  pub key : Token
  pub named : text_of key ≡ Some name
  pub tokens : all ≡ done ++ key ∷ []

-- ---- arrays and objects alike; whether it is an object is told first

-- the bytes of the brackets, and the token
abbrev pub opens : Bool → ℕ
opens of = if of then 123 else 91

abbrev pub closes : Bool → ℕ
closes of = if of then 125 else 93

abbrev pub bracket : Bool → ℕ → Token
bracket of n = if of then value.Object n else value.Array n

-- `left` begins with what comes: a key, where one is due, or a value
abbrev pub Before : (floats of due : Bool) (text left : List ℕ) (done : List Token) (most : ℕ) → Type 0
Before floats false false text left done most = ItemsSoFar floats text (comma ∷ lex between left) done most
Before floats false true text left done most = ⊥
Before floats true false text left done most = KeySoFar floats text left done most
Before floats true true text left done most = MembersSoFar floats text (comma ∷ lex between left) done most

-- `rest` is behind a value
abbrev Behind : (floats of : Bool) → (text rest : List ℕ) (done : List Token) (most : ℕ) → Type 0
Behind floats false text rest done most = ItemsSoFar floats text (lex between rest) done most
Behind floats true text rest done most = MembersSoFar floats text (lex between rest) done most

pub begins : (fl : Bool) (of : Bool) (text : List ℕ) (most : ℕ) → Before fl of of text text [] most
begins fl false text most = record { add = λ js. js; spelled = λ js r is. is; meant = λ js ts is. is; shallow = λ js low. low; taken = tt }
begins fl true text most = record { add = λ ms. ms; spelled = λ ms r is. is; meant = λ ms ts is. is; shallow = λ ms low. low; taken = tt }

pub next_key : (fl : Bool) (of due : Bool) (text left rest next : List ℕ) (done : List Token) (key : Token) (most : ℕ) → due ≡ true → Before fl of due text left done most → SpellsString left rest key → rest ≡ 58 ∷ next → Before fl of false text next (done ++ key ∷ []) most
unfolding lex
next_key fl of false text left rest next done key most is_due so s is = absurd (true≢false (sym is_due))
next_key fl false true text left rest next done key most is_due so s is = absurd so
next_key fl true true text left rest next done key most is_due so s is =
    record {
      ahead = lex between left;
      done = done;
      so = so;
      name = s.name;
      lexed = s.lexed ∙ ap (λ t. token (json_token.string s.name) ∷ lex between t) is;
      key = key;
      named = s.named;
      tokens = refl;
    }

behind : {fl : Bool} (of : Bool) (text left rest : List ℕ) (done : List Token) (first : Token) (inside : List Token) (most : ℕ) → Before fl of false text left done most → Spells fl left rest first inside most → ends_word rest ≡ true → Behind fl of text rest (done ++ (first ∷ inside)) most
behind {fl} false text left rest done first inside most so s ended =
    record {
      add = λ js. so.add (item s.json js);
      spelled = λ js r is. so.spelled (item s.json js) r (ap (λ l. comma ∷ l) (s.lexed ended ∙ ap (λ l. lexemes s.json ++ l) is ∙ sym (append_assoc (lexemes s.json) (items_lexemes true js) r)));
      meant = λ js ts more.
          so.meant (item s.json js) (first ∷ (inside ++ ts)) (item_means first inside ts s.json js s.closed s.meant more) ∙ ap (λ us. Some (items_of us)) (sym (append_assoc done (first ∷ inside) ts));
      shallow = λ js low. so.shallow (item s.json js) (omega (arith, s.shallow, low));
      taken = taken_append fl done (first ∷ inside) so.taken s.taken;
    }
behind {fl} true text left rest done first inside most k s ended =
    record {
      add = λ ms. k.so.add (member k.name s.json ms);
      spelled = λ ms r is. k.so.spelled (member k.name s.json ms) r (ap (λ l. comma ∷ l) (k.lexed ∙ ap (λ l. token (json_token.string k.name) ∷ colon ∷ l) (s.lexed ended ∙ ap (λ l. lexemes s.json ++ l) is ∙ sym (append_assoc (lexemes s.json) (members_lexemes true ms) r))));
      meant = λ ms ts more before.
          k.so.meant (member k.name s.json ms) (k.key ∷ first ∷ (inside ++ ts)) (member_means k.key first inside ts k.name s.json ms k.named s.closed s.meant more) before
          ∙ ap (λ us. Some (members_of us before)) (sym (append_assoc k.done (k.key ∷ []) (first ∷ (inside ++ ts))) ∙ ap (λ us. us ++ (first ∷ (inside ++ ts))) (sym k.tokens) ∙ sym (append_assoc done (first ∷ inside) ts));
      shallow = λ ms low. k.so.shallow (member k.name s.json ms) (omega (arith, s.shallow, low));
      taken = taken_append fl done (first ∷ inside) (subst (AreTaken fl) (sym k.tokens) (taken_append fl k.done (k.key ∷ []) k.so.taken (text_taken fl k.key k.name k.named, tt))) s.taken;
    }

-- a comma, and the next value or key
pub next_value : {fl : Bool} (of due : Bool) (text left rest next : List ℕ) (done : List Token) (first : Token) (inside : List Token) (most : ℕ) → due ≡ false → Before fl of due text left done most → Spells fl left rest first inside most → rest ≡ 44 ∷ next → Before fl of of text next (done ++ (first ∷ inside)) most
unfolding lex
next_value of true text left rest next done first inside most not_due so s is = absurd (true≢false not_due)
next_value false false text left rest next done first inside most not_due so s is = rw is at (behind false text left rest done first inside most so s (ap ends_word is))
next_value true false text left rest next done first inside most not_due so s is = rw is at (behind true text left rest done first inside most so s (ap ends_word is))

-- the closing bracket
closed : {fl : Bool} (of : Bool) (text rest after : List ℕ) (done : List Token) (most deep : ℕ) → Behind fl of text rest done most → rest ≡ closes of ∷ after → most < deep → Spells fl (opens of ∷ text) after (bracket of (length done)) done deep
unfolding lex items_by members_by
closed false text rest after done most deep so is room =
    record {
      json = array (so.add no_items);
      lexed = λ ended. ap (λ l. token json_token.begin_array ∷ l) (first_items (so.add no_items) (lex between text) (lex between after) (so.spelled no_items (lex between after) (ap (lex between) is)));
      meant = ap (option_map serde.array) (so.meant no_items [] refl ∙ ap (λ us. Some (items_of us)) (append-nil done)) ∙ ap Some (sym (value_array (length done) done));
      closed = refl;
      shallow = omega (arith, so.shallow no_items (omega arith), room);
      taken = (tt, so.taken);
    }
closed true text rest after done most deep so is room =
    record {
      json = object (so.add no_members);
      lexed = λ ended. ap (λ l. token json_token.begin_object ∷ l) (first_members (so.add no_members) (lex between text) (lex between after) (so.spelled no_members (lex between after) (ap (lex between) is)));
      meant = ap (option_map serde.object) (so.meant no_members [] (λ before. refl) serde.no_members ∙ ap (λ us. Some (members_of us serde.no_members)) (append-nil done)) ∙ ap Some (sym (value_object (length done) done));
      closed = refl;
      shallow = omega (arith, so.shallow no_members (omega arith), room);
      taken = (tt, so.taken);
    }

closes_word : (of : Bool) (after : List ℕ) → ends_word (closes of ∷ after) ≡ true
closes_word false after = refl
closes_word true after = refl

pub ends : {fl : Bool} (of due : Bool) (text left rest after : List ℕ) (done : List Token) (first : Token) (inside : List Token) (most deep : ℕ) → due ≡ false → Before fl of due text left done most → Spells fl left rest first inside most → rest ≡ closes of ∷ after → most < deep → Spells fl (opens of ∷ text) after (bracket of (length (done ++ (first ∷ inside)))) (done ++ (first ∷ inside)) deep
ends of true text left rest after done first inside most deep not_due so s is room = absurd (true≢false not_due)
ends of false text left rest after done first inside most deep not_due so s is room =
    closed of text rest after (done ++ (first ∷ inside)) most deep (behind of text left rest done first inside most so s (ap ends_word is ∙ closes_word of after)) is room

pub empty : {fl : Bool} (of : Bool) (text after : List ℕ) (deep : ℕ) → IsBehind (closes of) text after → 0 < deep → Spells fl (opens of ∷ text) after (bracket of 0) [] deep
unfolding lex items_by members_by
empty false text after deep (front, spaced, is) room =
    record { json = array no_items; lexed = λ ended. ap (λ ls. token json_token.begin_array ∷ ls) (spaced.lexed ∙ ap (lex between) is); meant = ap Some (sym (value_array 0 [])); closed = refl; shallow = omega (arith, room); taken = (tt, tt) }
empty true text after deep (front, spaced, is) room =
    record { json = object no_members; lexed = λ ended. ap (λ ls. token json_token.begin_object ∷ ls) (spaced.lexed ∙ ap (lex between) is); meant = ap Some (sym (value_object 0 [])); closed = refl; shallow = omega (arith, room); taken = (tt, tt) }

-- ---- the tokens

-- they are kept, where the constant that says so isn't 0
pub are_kept : (n : ℕ) → ¬ (n ≡ 0) → (ts : List Token) → kept (not (n == 0)) ts ≡ ts
are_kept n isnt ts = at (n == 0) refl
  where
    at : (b : Bool) → (n == 0) ≡ b → kept (not b) ts ≡ ts
    at true is = absurd (isnt (eqb-true n 0 is))
    at false is = refl

-- kept tokens, one behind the other
pub kept_more : (keeps : Bool) (old done more : List Token) (t : Token) → (old ++ kept keeps (t ∷ done)) ++ kept keeps more ≡ old ++ kept keeps (t ∷ (done ++ more))
kept_more true old done more t = append_assoc old (t ∷ done) more
kept_more false old done more t = append-nil (old ++ [])

set_at : (old done : List Token) (t u : Token) → slice_set (old ++ t ∷ done) (length old) u ≡ old ++ u ∷ done
set_at [] done t u = refl
set_at (x ∷ xs) done t u = ap (λ ts. x ∷ ts) (set_at xs done t u)

-- the token of the bracket is told its width
pub set_back : (all old done : List Token) (place : ℕ) (t u : Token) → all ≡ old ++ t ∷ done → place ≡ length old → slice_set all place u ≡ old ++ u ∷ done
set_back all old done place t u is at = ap₂ (λ ts n. slice_set ts n u) is at ∙ set_at old done t u

pub counted : (all old done : List Token) (len place : ℕ) (t : Token) → all ≡ old ++ t ∷ done → len ≡ length all → place ≡ length old → len - place - 1 ≡ length done
counted all old done len place t is long at = omega (arith, long, at, ap length is, length-append old (t ∷ done))

-- ---- white space before what was read, and behind it

pub skipped : (fl : Bool) (of due : Bool) (text left next : List ℕ) (done : List Token) (most : ℕ) → IsSpaced left next → Before fl of due text left done most → Before fl of due text next done most
skipped fl false false text left next done most space so = subst (λ l. ItemsSoFar fl text (comma ∷ l) done most) space.lexed so
skipped fl false true text left next done most space so = absurd so
skipped fl true false text left next done most space k =
    record { ahead = k.ahead; done = k.done; so = k.so; name = k.name; lexed = k.lexed ∙ ap (λ l. token (json_token.string k.name) ∷ colon ∷ l) space.lexed; key = k.key; named = k.named; tokens = k.tokens }
skipped fl true true text left next done most space so = subst (λ l. MembersSoFar fl text (comma ∷ l) done most) space.lexed so

pub value_behind : {fl : Bool} (text front rest : List ℕ) (first : Token) (inside : List Token) (most : ℕ) → IsSpaced text front → Spells fl front rest first inside most → Spells fl text rest first inside most
value_behind text front rest first inside most space s = record { json = s.json; lexed = λ ended. space.lexed ∙ s.lexed ended; meant = s.meant; closed = s.closed; shallow = s.shallow; taken = s.taken }

pub value_before : {fl : Bool} (text rest front : List ℕ) (first : Token) (inside : List Token) (most : ℕ) → Spells fl text rest first inside most → IsSpaced rest front → Spells fl text front first inside most
value_before text rest front first inside most s space =
    record { json = s.json; lexed = λ ended. s.lexed (space.ended ended) ∙ ap (λ l. lexemes s.json ++ l) space.lexed; meant = s.meant; closed = s.closed; shallow = s.shallow; taken = s.taken }

pub string_before : (text rest front : List ℕ) (first : Token) → SpellsString text rest first → IsSpaced rest front → SpellsString text front first
string_before text rest front first s space = record { name = s.name; named = s.named; lexed = s.lexed ∙ ap (λ l. token (json_token.string s.name) ∷ l) space.lexed }
