-- Several keys that are looked up in one walk.
use Rattle.std.proofs.Common.{◌≡◌, ℕ, zero, suc, ◌+◌, ◌<◌, List, [], ◌∷◌, length, map, set, get_or, bytes_eq, Bor, Option, Some, None, option_map, refl, sym, ap, ◌∙◌, subst, true, false, arith, true≢false}
use Rattle.std.proofs.lemmas.Bool.{and_parts, or_parts, not-true}
use Rattle.std.proofs.lemmas.List.{length-map, map-set}
use Rattle.std.proofs.lemmas.Slice.Eq.{bytes_eq-Decides}
use Rattle.serde_json.specs.Data.{Data, Members, put}
use Rattle.serde_json.specs.Find.{get_member}
use Rattle.serde_json.proofs.Views.{get_member-put, get_member-put_other}
use Rattle.sentry_json.specs.Keys.{is_among, are_distinct, StandsAt}
use Rattle.sentry_json.proofs.Beside.{among, stands_within}

abbrev pub names_of : List (Bor (List ℕ)) → List (List ℕ)
names_of keys = map (λ key. key.now) keys

-- what stands at each of the keys
abbrev pub values_at : List (Bor (List ℕ)) → Members → List (Option Data)
values_at keys ms = map (λ key. get_member key.now ms) keys

-- a member of another key takes nothing from them
pub others_stay : (keys : List (Bor (List ℕ))) (k : List ℕ) (d : Data) (ms : Members) → is_among k (names_of keys) ≡ false
    → values_at keys ms ≡ values_at keys (put k d ms)
others_stay [] k d ms other = refl
others_stay (l ∷ ls) k d ms other =
    let p = or_parts (bytes_eq k l.now) (is_among k (names_of ls)) other in
    rw (get_member-put_other l.now k d ms (λ same. true≢false (sym ((bytes_eq-Decides k l.now).1 (sym same)) ∙ p.0))) (ap (λ xs. get_member l.now ms ∷ xs) (others_stay ls k d ms p.1))

-- a member of one of them takes its place
pub one_is_set : (keys : List (Bor (List ℕ))) (k : List ℕ) (i : ℕ) (d : Data) (ms : Members) → StandsAt k i (names_of keys)
    → are_distinct (names_of keys) ≡ true → set (values_at keys ms) i (Some d) ≡ values_at keys (put k d ms)
one_is_set [] k i d ms at distinct = absurd at
one_is_set (l ∷ ls) k zero d ms at distinct =
    let alone : is_among k (names_of ls) ≡ false = subst (λ n. is_among n (names_of ls) ≡ false) (sym at) (not-true _ (and_parts _ _ distinct).0) in
    let here : get_member l.now (put k d ms) ≡ Some d = subst (λ n. get_member n (put k d ms) ≡ Some d) at (get_member-put k d ms) in
    rw here (ap (λ xs. Some d ∷ xs) (others_stay ls k d ms alone))
one_is_set (l ∷ ls) k (suc i) d ms at distinct =
    let p = and_parts _ _ distinct in
    let apart = λ (same : l.now ≡ k). true≢false (sym (among k i (names_of ls) at) ∙ subst (λ n. is_among n (names_of ls) ≡ false) same (not-true _ p.0)) in
    rw (get_member-put_other l.now k d ms apart) (ap (λ xs. get_member l.now ms ∷ xs) (one_is_set ls k i d ms at p.1))

pub place_set : {N : Type 0} (f : N → Data) (keys : List (Bor (List ℕ))) (places : List (Option N)) (k : List ℕ) (i : ℕ) (node : N) (ms : Members)
    → StandsAt k i (names_of keys) → are_distinct (names_of keys) ≡ true → map (option_map f) places ≡ values_at keys ms
    → map (option_map f) (set places i (Some node)) ≡ values_at keys (put k (f node) ms)
place_set f keys places k i node ms at distinct h = map-set (option_map f) places i (Some node) ∙ ap (λ xs. set xs i (Some (f node))) h ∙ one_is_set keys k i (f node) ms at distinct

pub same_length : {A B C : Type 0} (f : A → C) (g : B → C) (xs : List A) (ys : List B) → map f xs ≡ map g ys → length xs ≡ length ys
same_length f g xs ys h = sym (length-map xs f) ∙ ap length h ∙ length-map ys g

-- each key has a place
pub place_within : {A C : Type 0} (f : A → C) (g : Bor (List ℕ) → C) (keys : List (Bor (List ℕ))) (places : List A) (k : List ℕ) (i : ℕ)
    → map f places ≡ map g keys → StandsAt k i (names_of keys) → i < length places
place_within f g keys places k i h at = rw (same_length f g places keys h, ← length-map keys (λ key. key.now)) (stands_within k i (names_of keys) at)

-- ---- keys that are looked up one after the other

-- what g gives for the first n keys, and none for those after them
abbrev pub given_to : (Bor (List ℕ) → Option Data) → ℕ → List (Bor (List ℕ)) → List (Option Data)
given_to g n [] = []
given_to g zero (key ∷ keys) = None ∷ given_to g zero keys
given_to g (suc n) (key ∷ keys) = g key ∷ given_to g n keys

pub given_none : (g : Bor (List ℕ) → Option Data) (keys : List (Bor (List ℕ))) → map (λ key. None) keys ≡ given_to g 0 keys
given_none g [] = refl
given_none g (key ∷ keys) = ap (λ xs. None ∷ xs) (given_none g keys)

pub given_all : (g : Bor (List ℕ) → Option Data) (keys : List (Bor (List ℕ))) → given_to g (length keys) keys ≡ map g keys
given_all g [] = refl
given_all g (key ∷ keys) = ap (λ xs. g key ∷ xs) (given_all g keys)

given_next : (g : Bor (List ℕ) → Option Data) (keys : List (Bor (List ℕ))) (n : ℕ) (key : Bor (List ℕ)) → n < length keys
    → set (given_to g n keys) n (g (get_or keys n key)) ≡ given_to g (suc n) keys
given_next g [] n key lt = absurd (omega arith)
given_next g (l ∷ ls) zero key lt = refl
given_next g (l ∷ ls) (suc n) key lt = ap (λ xs. g l ∷ xs) (given_next g ls n key (omega arith))

pub given_more : {N : Type 0} (f : N → Data) (g : Bor (List ℕ) → Option Data) (keys : List (Bor (List ℕ))) (places : List (Option N)) (n : ℕ) (key : Bor (List ℕ)) (node : Option N)
    → n < length keys → option_map f node ≡ g (get_or keys n key)
    → map (option_map f) places ≡ given_to g n keys → map (option_map f) (set places n node) ≡ given_to g (n + 1) keys
given_more f g keys places n key node lt is h =
    let more : suc n ≡ n + 1 = omega arith in
    map-set (option_map f) places n node ∙ ap (λ xs. set xs n (option_map f node)) h ∙ ap (set (given_to g n keys) n) is ∙ given_next g keys n key lt ∙ ap (λ m. given_to g m keys) more

pub given_whole : (g : Bor (List ℕ) → Option Data) (keys : List (Bor (List ℕ))) (xs : List (Option Data)) (n : ℕ) → n ≡ length keys
    → xs ≡ given_to g n keys → xs ≡ map g keys
given_whole g keys xs n whole h = h ∙ ap (λ m. given_to g m keys) whole ∙ given_all g keys
