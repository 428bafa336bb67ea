-- What lists of tokens mean, one token after the other: any number that is at least the count of
-- the tokens gives the same.
use Rattle.std.proofs.Common.{Ordering, Less, Equal, Greater, ◌+◌, ◌-◌, min, take_all, ◌≡◌, ℕ, zero, suc, ℤ, pos, negsuc, ◌<◌, ◌≤◌, List, [], ◌∷◌, length, take, drop, length-take, length-drop, Option, Some, None, refl, sym, ap, ◌∙◌, slice_get, is_some, Bool, true, false, true≢false, ◌++◌, arith}
use Rattle.std.proofs.lemmas.Bool.{or_parts, or_from}
use Rattle.std.proofs.lemmas.List.{take_min, drop_min}
use Rattle.std.proofs.lemmas.Option.{same_Some}
use Rattle.std.specs.Ordering.{match_ordering}
use Rattle.serde_json.specs.Data.{Data, array, object, Items, no_items, item, Members, no_members, member, put}
use Rattle.serde_json.specs.Find.{as_array, as_object, is_float}
use Rattle.serde_json.specs.Written.{has_float, items_have_float, members_have_float}
use Rattle.sentry_json.specs.Tokens.{IsTaken, AreTaken, integer, Meaning, width, text_of, value_with, items_by, member_step, members_by, value_at, value_of, items_of, members_of, tokens_value}
use Rattle.sentry_json.specs.declared.tape.token.Token.{Token}
use Rattle.sentry_json.specs.declared.tape.token.Token.TheVariants as token

-- ---- more turns than tokens give no more

items_none : (f : Meaning) (n : ℕ) → items_by f n [] ≡ no_items
unfolding items_by
items_none f zero = refl
items_none f (suc n) = refl

-- what is inside a token, and what is behind that, is no longer than all
within : (k : ℕ) (ts : List Token) → length (take k ts) ≤ length ts
within k ts = simp length-take (omega arith)

behind : (k : ℕ) (ts : List Token) → length (drop k ts) ≤ length ts
behind k ts = simp length-drop (omega arith)

pub items_same : (f g : Meaning) (n m : ℕ) (ts : List Token) → length ts ≤ n → length ts ≤ m → ((t : Token) (us : List Token) → length us < length ts → f t us ≡ g t us) → items_by f n ts ≡ items_by g m ts
unfolding items_by
items_same f g n m [] a b h = items_none f n ∙ sym (items_none g m)
items_same f g zero m (t ∷ ts) a b h = absurd (omega arith)
items_same f g (suc n) zero (t ∷ ts) a b h = absurd (omega arith)
items_same f g (suc n) (suc m) (t ∷ ts) a b h =
    let inside = within (width t) ts in
    let left = behind (width t) ts in
    let here = h t (take (width t) ts) (omega arith) in
    let more = items_same f g n m (drop (width t) ts) (omega arith) (omega arith) (λ u us lt. h u us (omega (arith, lt))) in
    ap (λ d. item d (items_by f n (drop (width t) ts))) here ∙ ap (item (g t (take (width t) ts))) more

members_none : (f : Meaning) (n : ℕ) (before : Members) → members_by f n [] before ≡ before
unfolding members_by
members_none f zero before = refl
members_none f (suc n) before = refl

members_one : (f : Meaning) (n : ℕ) (k : Token) (before : Members) → members_by f n (k ∷ []) before ≡ before
unfolding members_by
members_one f zero k before = refl
members_one f (suc n) k before = refl

step_same : (o : Option (List ℕ)) (d e : Data) (p q : Members → Members) → d ≡ e → ((before : Members) → p before ≡ q before) → (before : Members) → member_step o d p before ≡ member_step o e q before
step_same None d e p q same h before = refl
step_same (Some k) d e p q same h before = ap (λ x. p (put k x before)) same ∙ h (put k e before)

pub members_same : (f g : Meaning) (n m : ℕ) (ts : List Token) → length ts ≤ n → length ts ≤ m → ((t : Token) (us : List Token) → length us < length ts → f t us ≡ g t us) → (before : Members) → members_by f n ts before ≡ members_by g m ts before
unfolding members_by
members_same f g n m [] a b h before = members_none f n before ∙ sym (members_none g m before)
members_same f g n m (k ∷ []) a b h before = members_one f n k before ∙ sym (members_one g m k before)
members_same f g zero m (k ∷ t ∷ ts) a b h before = absurd (omega arith)
members_same f g (suc n) zero (k ∷ t ∷ ts) a b h before = absurd (omega arith)
members_same f g (suc n) (suc m) (k ∷ t ∷ ts) a b h before =
    let inside = within (width t) ts in
    let left = behind (width t) ts in
    let here = h t (take (width t) ts) (omega arith) in
    let more = members_same f g n m (drop (width t) ts) (omega arith) (omega arith) (λ u us lt. h u us (omega (arith, lt))) in
    step_same (text_of k) _ _ _ _ here more before

with_same : (i j : List Token → Items) (p q : List Token → Members) (t : Token) (ts : List Token) → i ts ≡ j ts → p ts ≡ q ts → value_with i p t ts ≡ value_with j q t ts
with_same i j p q token.Null ts a b = refl
with_same i j p q (token.Bool x) ts a b = refl
with_same i j p q (token.Whole n) ts a b = refl
with_same i j p q (token.Negative z) ts a b = refl
with_same i j p q (token.Float f) ts a b = refl
with_same i j p q (token.Text s) ts a b = refl
with_same i j p q (token.Array n) ts a b = ap array a
with_same i j p q (token.Object n) ts a b = ap object b

-- more depth than tokens gives no more either
pub value_same : (d e : ℕ) (t : Token) (ts : List Token) → length ts ≤ d → length ts ≤ e → value_at d t ts ≡ value_at e t ts
unfolding items_by members_by value_at
value_same zero zero t ts a b = refl
value_same zero (suc e) t [] a b = with_same _ _ _ _ t [] refl refl
value_same zero (suc e) t (u ∷ us) a b = absurd (omega arith)
value_same (suc d) zero t [] a b = with_same _ _ _ _ t [] refl refl
value_same (suc d) zero t (u ∷ us) a b = absurd (omega arith)
value_same (suc d) (suc e) t ts a b =
    let whole : length ts ≤ length ts = omega arith in
    let same : (u : Token) (us : List Token) → length us < length ts → value_at d u us ≡ value_at e u us = λ u us lt. value_same d e u us (omega (arith, lt)) (omega (arith, lt)) in
    with_same _ _ _ _ t ts (items_same (value_at d) (value_at e) (length ts) (length ts) ts whole whole same) (members_same (value_at d) (value_at e) (length ts) (length ts) ts whole whole same no_members)

-- what a token is, by what is inside it
pub value_is : (t : Token) (ts : List Token) → value_of t ts ≡ value_with items_of (λ us. members_of us no_members) t ts
unfolding items_by members_by value_at
value_is t [] = with_same _ _ _ _ t [] refl refl
value_is t (u ∷ us) =
    let all = length (u ∷ us) in
    let whole : all ≤ all = omega arith in
    let same : (v : Token) (vs : List Token) → length vs < all → value_at (length us) v vs ≡ value_at all v vs = λ v vs lt. value_same (length us) all v vs (omega (arith, lt)) (omega (arith, lt)) in
    with_same _ _ _ _ t (u ∷ us) (items_same (value_at (length us)) (value_at all) all all (u ∷ us) whole whole same) (members_same (value_at (length us)) (value_at all) all all (u ∷ us) whole whole same no_members)

pub value_array : (n : ℕ) (ts : List Token) → value_of (token.Array n) ts ≡ array (items_of ts)
value_array n ts = value_is (token.Array n) ts

pub value_object : (n : ℕ) (ts : List Token) → value_of (token.Object n) ts ≡ object (members_of ts no_members)
value_object n ts = value_is (token.Object n) ts

-- what the tokens are, by the first
pub first_value : (all : List Token) (t u : Token) → Some t ≡ slice_get all 0 → t ≡ u → tokens_value all ≡ value_with items_of (λ us. members_of us no_members) u (drop 1 all)
first_value [] t u first is = absurd cc
first_value (v ∷ vs) t u first is =
    let same : t ≡ v = same_Some _ _ first in
    value_is v vs ∙ ap (λ w. value_with items_of (λ us. members_of us no_members) w vs) (sym same ∙ is)

-- ---- what is inside

with_array : (i : List Token → Items) (p : List Token → Members) (t : Token) (ts : List Token) → is_some (as_array (value_with i p t ts)) ≡ true → as_array (value_with i p t ts) ≡ Some (i ts)
with_array i p token.Null ts h = absurd cc
with_array i p (token.Bool x) ts h = absurd cc
with_array i p (token.Whole n) ts h = absurd cc
with_array i p (token.Negative z) ts h = absurd cc
with_array i p (token.Float f) ts h = absurd cc
with_array i p (token.Text s) ts h = absurd cc
with_array i p (token.Array n) ts h = refl
with_array i p (token.Object n) ts h = absurd cc

with_object : (i : List Token → Items) (p : List Token → Members) (t : Token) (ts : List Token) → is_some (as_object (value_with i p t ts)) ≡ true → as_object (value_with i p t ts) ≡ Some (p ts)
with_object i p token.Null ts h = absurd cc
with_object i p (token.Bool x) ts h = absurd cc
with_object i p (token.Whole n) ts h = absurd cc
with_object i p (token.Negative z) ts h = absurd cc
with_object i p (token.Float f) ts h = absurd cc
with_object i p (token.Text s) ts h = absurd cc
with_object i p (token.Array n) ts h = absurd cc
with_object i p (token.Object n) ts h = refl

pub array_seen : (all ts : List Token) (t : Token) → all ≡ t ∷ ts → is_some (as_array (value_of t ts)) ≡ true → as_array (tokens_value all) ≡ Some (items_of ts)
array_seen all ts t begins h =
    let same = value_is t ts in
    ap (λ us. as_array (tokens_value us)) begins ∙ ap as_array same ∙ with_array _ _ t ts (ap (λ d. is_some (as_array d)) (sym same) ∙ h)

pub object_seen : (all ts : List Token) (t : Token) → all ≡ t ∷ ts → is_some (as_object (value_of t ts)) ≡ true → as_object (tokens_value all) ≡ Some (members_of ts no_members)
object_seen all ts t begins h =
    let same = value_is t ts in
    ap (λ us. as_object (tokens_value us)) begins ∙ ap as_object same ∙ with_object _ _ t ts (ap (λ d. is_some (as_object d)) (sym same) ∙ h)

-- ---- the next value

pub items_end : items_of [] ≡ no_items
unfolding items_by
items_end = refl

-- the first token with those inside it is an item, and those behind are the others
pub items_next : (t : Token) (ts : List Token) → items_of (t ∷ ts) ≡ item (value_of t (take (width t) ts)) (items_of (drop (width t) ts))
unfolding items_by
items_next t ts =
    let all = length (t ∷ ts) in
    let inside = take (width t) ts in
    let rest = drop (width t) ts in
    let short = within (width t) ts in
    let left = behind (width t) ts in
    let whole : length rest ≤ length rest = omega arith in
    let here : value_at all t inside ≡ value_of t inside = value_same all (length inside) t inside (omega arith) (omega arith) in
    let more : items_by (value_at all) (length ts) rest ≡ items_of rest =
    items_same (value_at all) (value_at (length rest)) (length ts) (length rest) rest left whole (λ u us lt. value_same all (length rest) u us (omega (arith, lt)) (omega (arith, lt))) in
    ap (λ d. item d (items_by (value_at all) (length ts) rest)) here ∙ ap (item (value_of t inside)) more

pub members_end : (before : Members) → members_of [] before ≡ before
members_end before = members_none _ _ before

pub members_end_one : (k : Token) (before : Members) → members_of (k ∷ []) before ≡ before
members_end_one k before = members_one _ _ k before

pub members_end_none : (k : Token) (ts : List Token) (before : Members) → text_of k ≡ None → members_of (k ∷ ts) before ≡ before
unfolding members_by
members_end_none k [] before none = refl
members_end_none k (t ∷ ts) before none = ap (λ o. member_step o (value_at (length (k ∷ t ∷ ts)) t (take (width t) ts)) (members_by (value_at (length (k ∷ t ∷ ts))) (length (t ∷ ts)) (drop (width t) ts)) before) none

-- a key and a value are a member
pub members_next : (k t : Token) (ts : List Token) (s : List ℕ) (before : Members) → text_of k ≡ Some s → members_of (k ∷ t ∷ ts) before ≡ members_of (drop (width t) ts) (put s (value_of t (take (width t) ts)) before)
unfolding members_by
members_next k t ts s before named =
    let all = length (k ∷ t ∷ ts) in
    let inside = take (width t) ts in
    let rest = drop (width t) ts in
    let short = within (width t) ts in
    let left = behind (width t) ts in
    let whole : length rest ≤ length rest = omega arith in
    let here : value_at all t inside ≡ value_of t inside = value_same all (length inside) t inside (omega arith) (omega arith) in
    let more : (b : Members) → members_by (value_at all) (length (t ∷ ts)) rest b ≡ members_of rest b =
    members_same (value_at all) (value_at (length rest)) (length (t ∷ ts)) (length rest) rest (omega arith) whole (λ u us lt. value_same all (length rest) u us (omega (arith, lt)) (omega (arith, lt))) in
    ap (λ o. member_step o (value_at all t inside) (members_by (value_at all) (length (t ∷ ts)) rest) before) named ∙ step_same (Some s) (value_at all t inside) (value_of t inside) (members_by (value_at all) (length (t ∷ ts)) rest) (members_of rest) here more before

-- ---- no number is held as a float

pub taken_append : (fl : Bool) (ts us : List Token) → AreTaken fl ts → AreTaken fl us → AreTaken fl (ts ++ us)
taken_append fl [] us h k = k
taken_append fl (t ∷ ts) us h k = (h.0, taken_append fl ts us h.1 k)

some_whole : (k : ℕ) (ts : List Token) → AreTaken false ts → AreTaken false (take k ts)
some_whole zero ts h = tt
some_whole (suc k) [] h = tt
some_whole (suc k) (t ∷ ts) h = (h.0, some_whole k ts h.1)

left_whole : (k : ℕ) (ts : List Token) → AreTaken false ts → AreTaken false (drop k ts)
left_whole zero ts h = h
left_whole (suc k) [] h = tt
left_whole (suc k) (t ∷ ts) h = left_whole k ts h.1

-- what the tokens mean has no float, where they are such
abbrev HasNone : Meaning → Type 0
HasNone f = (t : Token) (us : List Token) → AreTaken false (t ∷ us) → has_float (f t us) ≡ false

items_no_float : (f : Meaning) (n : ℕ) (ts : List Token) → HasNone f → AreTaken false ts → items_have_float (items_by f n ts) ≡ false
unfolding items_by
items_no_float f zero ts h w = refl
items_no_float f (suc n) [] h w = refl
items_no_float f (suc n) (t ∷ ts) h w = or_from _ _ (h t (take (width t) ts) (w.0, some_whole (width t) ts w.1)) (items_no_float f n (drop (width t) ts) h (left_whole (width t) ts w.1))

-- a member without a float put among members without any
by_ordering : (o : Ordering) (a b c : Members) → members_have_float a ≡ false → members_have_float b ≡ false → members_have_float c ≡ false → members_have_float (match_ordering o a b c) ≡ false
by_ordering Less a b c x y z = x
by_ordering Equal a b c x y z = y
by_ordering Greater a b c x y z = z

pub put_no_float : (k : List ℕ) (d : Data) (ms : Members) → has_float d ≡ false → members_have_float ms ≡ false → members_have_float (put k d ms) ≡ false
put_no_float k d no_members h m = or_from _ _ h refl
put_no_float k d (member l e ms) h m =
    let p = or_parts _ _ m in
    by_ordering _ (member k d (member l e ms)) (member l d ms) (member l e (put k d ms)) (or_from _ _ h m) (or_from _ _ h p.1) (or_from _ _ p.0 (put_no_float k d ms h p.1))

step_no_float : (o : Option (List ℕ)) (d : Data) (more : Members → Members) (before : Members) → has_float d ≡ false → members_have_float before ≡ false → ((ms : Members) → members_have_float ms ≡ false → members_have_float (more ms) ≡ false) → members_have_float (member_step o d more before) ≡ false
step_no_float None d more before x b h = b
step_no_float (Some k) d more before x b h = h (put k d before) (put_no_float k d before x b)

members_no_float : (f : Meaning) (n : ℕ) (ts : List Token) (before : Members) → HasNone f → AreTaken false ts → members_have_float before ≡ false → members_have_float (members_by f n ts before) ≡ false
unfolding members_by
members_no_float f zero ts before h w b = b
members_no_float f (suc n) [] before h w b = b
members_no_float f (suc n) (k ∷ []) before h w b = b
members_no_float f (suc n) (k ∷ t ∷ ts) before h w b =
    step_no_float (text_of k) _ _ before (h t (take (width t) ts) (w.1.0, some_whole (width t) ts w.1.1)) b (λ ms. members_no_float f n (drop (width t) ts) ms h (left_whole (width t) ts w.1.1))

pub integer_no_float : (z : ℤ) → is_float (integer z) ≡ false
integer_no_float (pos n) = refl
integer_no_float (negsuc n) = refl

with_no_float : (i : List Token → Items) (p : List Token → Members) (t : Token) (ts : List Token) → IsTaken false t → items_have_float (i ts) ≡ false → members_have_float (p ts) ≡ false → has_float (value_with i p t ts) ≡ false
with_no_float i p token.Null ts w a b = refl
with_no_float i p (token.Bool x) ts w a b = refl
with_no_float i p (token.Whole n) ts w a b = refl
with_no_float i p (token.Negative z) ts w a b = integer_no_float z
with_no_float i p (token.Float f) ts w a b = absurd (true≢false (sym w))
with_no_float i p (token.Text s) ts w a b = refl
with_no_float i p (token.Array n) ts w a b = a
with_no_float i p (token.Object n) ts w a b = b

no_float_at : (d : ℕ) → HasNone (value_at d)
unfolding value_at
no_float_at zero t ts w = with_no_float _ _ t ts w.0 refl refl
no_float_at (suc d) t ts w = with_no_float _ _ t ts w.0 (items_no_float (value_at d) (length ts) ts (no_float_at d) w.1) (members_no_float (value_at d) (length ts) ts no_members (no_float_at d) w.1 refl)

pub no_float : (t : Token) (ts : List Token) → AreTaken false (t ∷ ts) → has_float (value_of t ts) ≡ false
no_float t ts w = no_float_at (length ts) t ts w

-- ---- the tokens of the first value

-- the first value is `w` tokens behind its own, and `rest` follows
pub first_split : (ts all rest : List Token) (t : Token) (w : ℕ) → all ≡ t ∷ ts → w ≡ min (width t) (length ts) → rest ≡ take (length ts - w) (drop w ts)
    → (t ∷ take (width t) ts ≡ take (w + 1) all) × (drop (width t) ts ≡ rest) × (0 < length (take (w + 1) all)) × (length (take (w + 1) all) + length rest ≡ length all)
first_split ts all rest t w begins least follows =
    let next : w + 1 ≡ suc w = omega arith in
    let inside : take (width t) ts ≡ take w ts = sym (ap (λ k. take k ts) least ∙ take_min (width t) ts) in
    let behind : drop (width t) ts ≡ rest = sym (follows ∙ take_all (length ts - w) (drop w ts) (simp length-drop (omega arith)) ∙ ap (λ k. drop k ts) least ∙ drop_min (width t) ts) in
    let value : t ∷ take w ts ≡ take (w + 1) all = rw (begins, next) refl in
    let left : length rest ≡ length ts - w = ap length follows ∙ simp (length-take, length-drop) (omega arith) in
    let size : length (take (w + 1) all) ≡ suc w = ap length (sym value) ∙ ap suc (length-take w ts ∙ omega arith) in
    let count : length all ≡ suc (length ts) = ap length begins in
    (ap (λ us. t ∷ us) inside ∙ value, behind, omega arith, omega arith)

pub item_split : (ts all node rest : List Token) (t : Token) → all ≡ t ∷ ts → t ∷ take (width t) ts ≡ node → drop (width t) ts ≡ rest → items_of all ≡ item (tokens_value node) (items_of rest)
item_split ts all node rest t begins value behind = ap items_of begins ∙ items_next t ts ∙ ap (λ us. item (tokens_value us) (items_of (drop (width t) ts))) value ∙ ap (λ us. item (tokens_value node) (items_of us)) behind

pub member_split : (ts all node rest : List Token) (k t : Token) (s : List ℕ) (before : Members) → all ≡ t ∷ ts → t ∷ take (width t) ts ≡ node → drop (width t) ts ≡ rest → text_of k ≡ Some s
    → members_of (k ∷ all) before ≡ members_of rest (put s (tokens_value node) before)
member_split ts all node rest k t s before begins value behind named =
    ap (λ us. members_of (k ∷ us) before) begins ∙ members_next k t ts s before named ∙ ap (λ us. members_of (drop (width t) ts) (put s (tokens_value us) before)) value ∙ ap (λ us. members_of us (put s (tokens_value node) before)) behind
