-- Lists of members, and maps of them.
use Rattle.std.proofs.Common.{◌≡◌, ℕ, ◌+◌, ◌<◌, List, [], ◌∷◌, ◌++◌, length, get_or, take, String, Global, string_bytes, string_cmp, nat_cmp, Less, Greater, refl, ap, ◌∙◌, Result, Ok, OnOk}
use Rattle.std.specs.Prelude.{IsUtf8, ⊤}
use Rattle.std.proofs.lemmas.List.{take_more}
use Rattle.std.specs.Cmp.Lexicographic.{slice_cmp}
use Rattle.std.specs.List.{AllByRecursion}
use Rattle.std.specs.List.Sorted.{IsStrictlySortedBy}
use Rattle.std.specs.Map.{keys_of}
use Rattle.std.specs.BTreeMap.{insert_entry}
use Rattle.json.specs.Token.{Token}
use Rattle.json.specs.Written.{Written, Writes}
use Rattle.serde_json.specs.Data.{Data, array, object, no_items, item, Members, member, put}
use Rattle.serde_json.specs.View.{view, items_view, members_view}
use Rattle.serde_json.specs.declared.value.Value.{Value}
use Rattle.serde_json.proofs.Views.{Entry}
use Rattle.sentry_tables.specs.Cell.{Cell, no_cells, cell}
use Rattle.sentry_tables.specs.Kind.{Kind, list, map}
use Rattle.sentry_tables.specs.Written.{items_tree, members_tree}
use Rattle.sentry_tables.specs.Meets.{AllLater, AreOrderedTexts, entry_keys}
use Rattle.sentry_tables.proofs.Sorted.{MapEntry, put_at, above_first}
use Rattle.sentry_tables.specs.Cells.{cells, entries, list_cell, map_cell, tree_cell}
use Rattle.sentry_tables.specs.Writes.{written, WritesTree, WritesItems, WritesMembers}
use Rattle.sentry_tables.proofs.Tokens.{array_wrote, object_wrote}

-- ---- trees

written_more : {A : Type 0} (w : Cell → Data) (f : A → Cell) (vs : List Value) (v : Value) (xs : List A) (x : A) → items_view vs ≡ items_tree w (cells f xs) → view v ≡ w (f x)
    → items_view (vs ++ v ∷ []) ≡ items_tree w (cells f (xs ++ x ∷ []))
written_more w f [] v [] x h s = ap (λ d. item d no_items) s
written_more w f [] v (y ∷ ys) x h s = absurd cc
written_more w f (u ∷ us) v [] x h s = absurd cc
written_more w f (u ∷ us) v (y ∷ ys) x h s =
    let a : view u ≡ w (f y) = cc in
    let b : items_view us ≡ items_tree w (cells f ys) = cc in
    let r = written_more w f us v ys x b s in cc

pub written_more_at : {A : Type 0} (K : Kind) (f : A → Cell) (vs us : List Value) (v : Value) (xs : List A) (i : ℕ) (x : A) → i < length xs → x ≡ get_or xs i x → us ≡ vs ++ v ∷ [] → items_view vs ≡ items_tree (written K) (cells f (take i xs)) → view v ≡ written K (f x)
    → items_view us ≡ items_tree (written K) (cells f (take (i + 1) xs))
unfolding written
written_more_at K f vs us v xs i x lt at made h s = rw (take_more xs i x lt, ← at, made) (written_more (written K) f vs v (take i xs) x h s)

pub list_written : {A : Type 0} (K : Kind) (f : A → Cell) (d : Data) (vs : List Value) (xs : List A) → d ≡ array (items_view vs) → items_view vs ≡ items_tree (written K) (cells f xs) → d ≡ written (list K) (list_cell f xs)
unfolding written
list_written K f d vs xs is h = is ∙ ap array h

put_above : {A : Type 0} (w : Cell → Data) (f : A → Cell) (done : List (MapEntry A)) (e : MapEntry A) (more : List (MapEntry A)) → IsStrictlySortedBy string_cmp (keys_of (done ++ e ∷ more))
    → put (string_bytes e.0) (w (f e.1)) (members_tree w (entries f done)) ≡ members_tree w (entries f (done ++ e ∷ []))
unfolding IsStrictlySortedBy
put_above w f [] e more sorted = refl
put_above w f (first ∷ done) e more sorted = rw (above_first first done e more sorted.0) (ap (member (string_bytes first.0) (w (f first.1))) (put_above w f done e more sorted.1))

pub put_more : {A : Type 0} (K : Kind) (f : A → Cell) (done : List (MapEntry A)) (e : MapEntry A) (more : List (MapEntry A)) (name : List ℕ) (d : Data) (ms new : Members) → IsStrictlySortedBy string_cmp (keys_of (done ++ e ∷ more)) → new ≡ put name d ms → name ≡ string_bytes e.0 → d ≡ written K (f e.1)
    → ms ≡ members_tree (written K) (entries f done) → new ≡ members_tree (written K) (entries f (done ++ e ∷ []))
unfolding written
put_more K f done e more name d ms new sorted is named seen so_far = is ∙ rw (named, seen, so_far) (put_above (written K) f done e more sorted)

pub map_written : {A : Type 0} (K : Kind) (f : A → Cell) (d : Data) (ms : Members) (es : List (MapEntry A)) → d ≡ object ms → ms ≡ members_tree (written K) (entries f es) → d ≡ written (map K) (map_cell f es)
unfolding written
map_written K f d ms es is h = is ∙ ap object h

-- ---- text

pub list_wrote : {A E F : Type 0} (K : Kind) (f : A → Cell) (xs : List A) (r : Result (Unit {0}) E) (a b c d : Written) → Writes {E = F} (Ok tt) a b Token.begin_array → WritesItems (items_tree (written K) (cells f xs)) b c → Writes r c d Token.end_array
    → OnOk r (WritesTree (written (list K) (list_cell f xs)) a d)
unfolding written
list_wrote K f xs r a b c d x y z = array_wrote _ r a b c d x y z

pub map_wrote : {A E F : Type 0} (K : Kind) (f : A → Cell) (es : List (MapEntry A)) (r : Result (Unit {0}) E) (a b c d : Written) → Writes {E = F} (Ok tt) a b Token.begin_object → WritesMembers (members_tree (written K) (entries f es)) b c → Writes r c d Token.end_object
    → OnOk r (WritesTree (written (map K) (map_cell f es)) a d)
unfolding written
map_wrote K f es r a b c d x y z = object_wrote _ r a b c d x y z

-- ---- copies

cells-append : {A : Type 0} (f g : A → Cell) (xs ys : List A) (x y : A) → cells f xs ≡ cells g ys → f x ≡ g y → cells f (xs ++ x ∷ []) ≡ cells g (ys ++ y ∷ [])
cells-append f g [] [] x y e s = ap (λ c. cell c no_cells) s
cells-append f g [] (z ∷ ys) x y e s = absurd cc
cells-append f g (z ∷ xs) [] x y e s = absurd cc
cells-append f g (u ∷ xs) (v ∷ ys) x y e s =
    let a : f u ≡ g v = cc in
    let b : cells f xs ≡ cells g ys = cc in
    let r = cells-append f g xs ys x y b s in cc

pub copied_more : {A : Type 0} (f g : A → Cell) (xs new ys : List A) (i : ℕ) (x y : A) → i < length ys → y ≡ get_or ys i y → new ≡ xs ++ x ∷ [] → cells f xs ≡ cells g (take i ys) → f x ≡ g y
    → cells f new ≡ cells g (take (i + 1) ys)
copied_more f g xs new ys i x y lt at made e s = rw (take_more ys i y lt, ← at, made) (cells-append f g xs (take i ys) x y e s)

pub copied_entry : {A : Type 0} (f g : A → Cell) (done : List (MapEntry A)) (e : MapEntry A) (more es : List (MapEntry A)) (name : String Global) (x : A) → IsStrictlySortedBy string_cmp (keys_of (done ++ e ∷ more)) → string_bytes name ≡ string_bytes e.0
    → entries f es ≡ entries g done → f x ≡ g e.1 → entries f (insert_entry string_cmp es name x) ≡ entries g (done ++ e ∷ [])
unfolding IsStrictlySortedBy
copied_entry f g [] e more [] name x sorted named h s = rw (named, s)
copied_entry f g [] e more (y ∷ ys) name x sorted named h s = absurd cc
copied_entry f g (z ∷ done) e more [] name x sorted named h s = absurd cc
copied_entry f g (z ∷ done) e more (y ∷ ys) name x sorted named h s =
    let key : string_bytes y.0 ≡ string_bytes z.0 = cc in
    let val : f y.1 ≡ g z.1 = cc in
    let rest : entries f ys ≡ entries g done = cc in
    let up : slice_cmp nat_cmp (string_bytes e.0) (string_bytes z.0) ≡ Greater = above_first z done e more sorted.0 in
    let above : string_cmp name y.0 ≡ Greater = ap (λ b. slice_cmp nat_cmp b (string_bytes y.0)) named ∙ ap (λ b. slice_cmp nat_cmp (string_bytes e.0) b) key ∙ up in
    let r = copied_entry f g done e more ys name x sorted.1 named rest s in
    put_at f y ys (insert_entry string_cmp ys name x) name x _ refl above ∙ cc

others_same : (xs ys : List Entry) → entries tree_cell xs ≡ entries tree_cell ys → members_view xs ≡ members_view ys
others_same [] [] e = refl
others_same [] (y ∷ ys) e = absurd cc
others_same (x ∷ xs) [] e = absurd cc
others_same (x ∷ xs) (y ∷ ys) e =
    let k : string_bytes x.0 ≡ string_bytes y.0 = cc in
    let v : view x.1 ≡ view y.1 = cc in
    let rest : entries tree_cell xs ≡ entries tree_cell ys = cc in
    let r = others_same xs ys rest in cc

pub others_same_cell : (xs ys : List Entry) → map_cell tree_cell xs ≡ map_cell tree_cell ys → members_view xs ≡ members_view ys
others_same_cell xs ys e = let f : entries tree_cell xs ≡ entries tree_cell ys = cc in others_same xs ys f

-- ---- keys that are texts

abbrev pub AreTexts : List (List ℕ) → Type 0
AreTexts [] = ⊤
AreTexts (k ∷ ks) = IsUtf8 k × AreTexts ks

all_later : {A : Type 0} (f : A → Cell) (k : String Global) (es : List (MapEntry A)) → AllByRecursion (λ y. string_cmp k y ≡ Less) (keys_of es) → AllLater (string_bytes k) (entry_keys (entries f es))
all_later f k [] h = tt
all_later f k (e ∷ es) h = (h.0, all_later f k es h.1)

pub ordered_texts : {A : Type 0} (f : A → Cell) (es : List (MapEntry A)) → IsStrictlySortedBy string_cmp (keys_of es) → AreTexts (entry_keys (entries f es)) → AreOrderedTexts (entry_keys (entries f es))
unfolding IsStrictlySortedBy
ordered_texts f [] h texts = tt
ordered_texts f (e ∷ es) h texts = (texts.0, all_later f e.0 es h.0, ordered_texts f es h.1 texts.1)
