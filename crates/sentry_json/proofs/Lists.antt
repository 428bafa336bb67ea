-- Lines that are an object of one member, an array, whose items are visited one by one.
use Rattle.std.proofs.Common.{◌≡◌, ℕ, List, [], ◌∷◌, ◌++◌, length, Some, IsUtf8, true, false, refl, sym, ap, ap₂, subst, ◌∙◌, append_assoc, append-nil, arith, take_at, drop, take_all}
use Rattle.std.proofs.lemmas.List.{drop_at}
use Rattle.serde_json.specs.Data.{Data, array, object, Items, no_items, item, no_members, put}
use Rattle.sentry_json.specs.Line.{tree_of}
use Rattle.sentry_json.specs.Lists.{list_at, VisitsAll}
use Rattle.sentry_json.specs.Nodes.{items_data}
use Rattle.sentry_json.specs.Spelled.{Spells, SpellsString, IsSpaced}
use Rattle.sentry_json.specs.Tokens.{width, text_of, value_of, items_of, members_of, tokens_value}
use Rattle.sentry_json.specs.declared.tape.token.Token.{Token}
use Rattle.sentry_json.specs.declared.tape.token.Token.TheVariants as token
use Rattle.sentry_json.proofs.Lexemes.{parsed}
use Rattle.sentry_json.proofs.SoFar.{begins, skipped, next_key, ends, string_before, value_before, value_behind}
use Rattle.sentry_json.proofs.TokenLists.{items_end, items_next, members_next, members_end, value_array, value_object}

-- ---- the items that were visited

-- these items, and then those
abbrev pub and_then : List Data → Items → Items
and_then [] js = js
and_then (d ∷ ds) js = item d (and_then ds js)

and_none : (ds : List Data) → and_then ds no_items ≡ items_data (λ d. d) ds
and_none [] = refl
and_none (d ∷ ds) = ap (item d) (and_none ds)

and_next : (ds : List Data) (d : Data) (js : Items) → and_then (ds ++ d ∷ []) js ≡ and_then ds (item d js)
and_next [] d js = refl
and_next (e ∷ es) d js = ap (item e) (and_next es d js)

-- the tokens are those of the items
abbrev pub Mean : List Token → List Data → Type 0
Mean done items = (ts : List Token) → items_of (done ++ ts) ≡ and_then items (items_of ts)

-- and there are no others
pub all_mean : (all : List Token) (items : List Data) → Mean all items → items_of all ≡ items_data (λ d. d) items
all_mean all items mean = ap items_of (sym (append-nil all)) ∙ mean [] ∙ ap (and_then items) items_end ∙ and_none items

pub means_next : (done : List Token) (items : List Data) (first : Token) (inside : List Token) → width first ≡ length inside → Mean done items → Mean (done ++ (first ∷ inside)) (items ++ value_of first inside ∷ [])
means_next done items first inside closed mean ts =
    ap items_of (append_assoc done (first ∷ inside) ts) ∙ mean (first ∷ (inside ++ ts))
    ∙ ap (and_then items) (items_next first (inside ++ ts) ∙ ap₂ (λ us vs. item (value_of first us) (items_of vs)) (take_at inside ts (width first) (sym closed)) (drop_at inside ts (width first) (sym closed)))
    ∙ sym (and_next items (value_of first inside) (items_of ts))

pub visited_next : {S : Type 0} (visits : S → Data → S → Type 0) (first : S) (items : List Data) (d : Data) (last after : S) → VisitsAll visits first items last → visits last d after → VisitsAll visits first (items ++ d ∷ []) after
visited_next visits first [] d last after is one = (after, subst (λ s. visits s d after) (sym is) one, refl)
visited_next visits first (e ∷ es) d last after (next, one_more, more) one = (next, one_more, visited_next visits next es d last after more one)

-- ---- the line

-- an object of one key and an array
one_member : (key : List ℕ) (k : Token) (all : List Token) (items : List Data) → text_of k ≡ Some key → items_of all ≡ items_data (λ d. d) items
    → tokens_value (token.Object (length (k ∷ token.Array (length all) ∷ all)) ∷ k ∷ token.Array (length all) ∷ all) ≡ list_at key items
one_member key k all items named are =
    let list = token.Array (length all) in
    let n = length all in
    value_object (length (k ∷ list ∷ all)) (k ∷ list ∷ all)
    ∙ ap object (members_next k list all key no_members named
    ∙ ap₂ (λ us vs. members_of vs (put key (value_of list us) no_members)) (take_all n all (omega arith)) (drop_all all)
    ∙ members_end (put key (value_of list all) no_members)
    ∙ ap (λ d. put key d no_members) (value_array n all ∙ ap array are))
  where
    drop_all : (ts : List Token) → drop (length ts) ts ≡ []
    drop_all [] = refl
    drop_all (t ∷ ts) = drop_all ts

pub list_line : (line text front brace first behind colon_at colon value inside list close rest end : List ℕ) (k : Token) (key : List ℕ) (all : List Token) (items : List Data)
    → text ≡ line → IsUtf8 line → IsSpaced text front → front ≡ 123 ∷ brace → IsSpaced brace first → SpellsString first behind k → text_of k ≡ Some key
    → IsSpaced behind colon_at → colon_at ≡ 58 ∷ colon → IsSpaced colon value → value ≡ 91 ∷ inside
    → Spells false (91 ∷ inside) list (token.Array (length all)) all 126 → items_of all ≡ items_data (λ d. d) items
    → IsSpaced list close → close ≡ 125 ∷ rest → IsSpaced rest end → end ≡ [] → tree_of line ≡ Some (list_at key items)
list_line line text front brace first behind colon_at colon value inside list close rest end k key all items same utf8 at_front opens at_key name named at_colon is_colon at_value is_list spelled are at_close closes at_end none =
    let before_key = skipped false true true brace brace first [] 126 at_key (begins false true brace 126) in
    let before_colon = next_key false true true brace first colon_at colon [] k 126 refl before_key (string_before first behind colon_at k name at_colon) is_colon in
    let before_list = skipped false true false brace colon value ([] ++ k ∷ []) 126 at_value before_colon in
    let the_list : Spells false value list (token.Array (length all)) all 126 = subst (λ t. Spells false t list (token.Array (length all)) all 126) (sym is_list) spelled in
    let whole = ends true false brace value close rest ([] ++ k ∷ []) (token.Array (length all)) all 126 127 refl before_list (value_before value list close (token.Array (length all)) all 126 the_list at_close) closes (omega arith) in
    let opened = subst (λ t. Spells false t rest (token.Object (length (k ∷ token.Array (length all) ∷ all))) (k ∷ token.Array (length all) ∷ all) 127) (sym opens) whole in
    parsed line text end (token.Object (length (k ∷ token.Array (length all) ∷ all)) ∷ k ∷ token.Array (length all) ∷ all) (token.Object (length (k ∷ token.Array (length all) ∷ all))) (k ∷ token.Array (length all) ∷ all) same utf8 none refl
    (value_behind text front end _ _ 127 at_front (value_before front rest end _ _ 127 opened at_end))
    ∙ ap Some (one_member key k all items named are)
