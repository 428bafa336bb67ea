-- How the words of a call are taken apart, from the front.
use Rattle.std.proofs.Common.{◌≡◌, ◌↔◌, ℕ, Bool, true, false, List, [], ◌∷◌, ◌++◌, Option, Some, None, map, codes, refl, ap, sym, ◌∙◌, ◌<◌, length, get_or, zero, suc, arith}
use Rattle.std.proofs.lemmas.Bool.{false≢true}
use Rattle.std.specs.Str.{bytes_eq}
use Rattle.std.proofs.lemmas.Slice.Eq.{bytes_eq-Decides}
use Rattle.sentry_framing.specs.declared.kind.ItemKind.{ItemKind}
use Rattle.sentry_framing.specs.ItemWords.{kind_of_word}
use Rattle.sentry_env.specs.Args.{IsCall, NameKinds, path_words}

-- words that name kinds begin with no word that names none
pub NameKinds-unknown : (word : List ℕ) (rest : List (List ℕ)) (kinds : List ItemKind) → kind_of_word word ≡ None → NameKinds (word ∷ rest) kinds → ⊥
NameKinds-unknown word rest [] unknown named = cc
NameKinds-unknown word rest (kind ∷ kinds) unknown named = cc

-- words that name kinds have at no place one that names none
pub NameKinds-unknown_at : {A : Type 0} (text : A → List ℕ) (words : List A) (kinds : List ItemKind) (i : ℕ) (d : A) → i < length words → kind_of_word (text (get_or words i d)) ≡ None → NameKinds (map text words) kinds → ⊥
NameKinds-unknown_at text [] kinds i d below unknown named = absurd (omega arith)
NameKinds-unknown_at text (word ∷ rest) [] i d below unknown named = cc
NameKinds-unknown_at text (word ∷ rest) (kind ∷ kinds) zero d below unknown named = NameKinds-unknown (text word) (map text rest) (kind ∷ kinds) unknown named
NameKinds-unknown_at text (word ∷ rest) (kind ∷ kinds) (suc i) d below unknown named = NameKinds-unknown_at text rest kinds i d (omega arith) unknown (cc)

-- words name the same kinds whenever they are read
pub NameKinds-only : (words : List (List ℕ)) (kinds others : List ItemKind) → NameKinds words kinds → NameKinds words others → kinds ≡ others
NameKinds-only words kinds others named also = same kinds others (sym named ∙ also)
  where
    same : (kinds others : List ItemKind) → map Some kinds ≡ map Some others → kinds ≡ others
    same [] [] e = refl
    same [] (other ∷ others) e = cc
    same (kind ∷ kinds) [] e = cc
    same (kind ∷ kinds) (other ∷ others) e = let rest : kinds ≡ others = same kinds others (cc) in cc

-- the words begin with this one
abbrev begins : List ℕ → List (List ℕ) → Bool
begins word [] = false
begins word (first ∷ rest) = bytes_eq first word

keep_taken : (rest : List (List ℕ)) (keep_headers : Bool) (path : Option (List ℕ)) (kinds : List ItemKind) → IsCall (codes "-k" ∷ rest) keep_headers path kinds → (keep_headers ≡ true) × IsCall rest false path kinds
keep_taken rest true path kinds call = (refl, record { names = call.names; spelled = cc; named = call.named })
keep_taken rest false (Some path) kinds call = absurd (false≢true (sym (ap (begins (codes "-k")) call.spelled)))
keep_taken rest false None kinds call = absurd (NameKinds-unknown (codes "-k") rest kinds refl (rw (sym call.spelled) at call.named))

keep_put : (rest : List (List ℕ)) (keep_headers : Bool) (path : Option (List ℕ)) (kinds : List ItemKind) → (keep_headers ≡ true) × IsCall rest false path kinds → IsCall (codes "-k" ∷ rest) keep_headers path kinds
keep_put rest true path kinds call = record { names = call.1.names; spelled = ap (λ words. codes "-k" ∷ words) call.1.spelled; named = call.1.named }
keep_put rest false path kinds call = cc

-- after `-k` stands a call without it
pub IsCall-keep : (words : List (List ℕ)) (first : List ℕ) (rest : List (List ℕ)) → words ≡ first ∷ rest → bytes_eq first (codes "-k") ≡ true
    → (keep_headers : Bool) (path : Option (List ℕ)) (kinds : List ItemKind) → IsCall words keep_headers path kinds ↔ ((keep_headers ≡ true) × IsCall rest false path kinds)
IsCall-keep words first rest is same keep_headers path kinds =
    let first_is : first ≡ codes "-k" = (bytes_eq-Decides first (codes "-k")).0 same in
    rw (is, first_is) (keep_taken rest keep_headers path kinds, keep_put rest keep_headers path kinds)

path_taken : (text : List ℕ) (more : List (List ℕ)) (path : Option (List ℕ)) (kinds : List ItemKind) → IsCall (codes "-f" ∷ text ∷ more) false path kinds → (path ≡ Some text) × NameKinds more kinds
path_taken text more (Some path) kinds call =
    let same : path ≡ text = cc in
    let left : call.names ≡ more = cc in
    (ap Some same, rw left at call.named)
path_taken text more None kinds call = absurd (NameKinds-unknown (codes "-f") (text ∷ more) kinds refl (rw (sym call.spelled) at call.named))

path_put : (text : List ℕ) (more : List (List ℕ)) (path : Option (List ℕ)) (kinds : List ItemKind) → (path ≡ Some text) × NameKinds more kinds → IsCall (codes "-f" ∷ text ∷ more) false path kinds
path_put text more path kinds call = rw call.0 (record { names = more; spelled = refl; named = call.1 })

-- after `-f` and a path stand words that name kinds
pub IsCall-path : (words : List (List ℕ)) (first : List ℕ) (rest : List (List ℕ)) (text : List ℕ) (more : List (List ℕ)) → words ≡ first ∷ rest → bytes_eq first (codes "-f") ≡ true → rest ≡ text ∷ more
    → (path : Option (List ℕ)) (kinds : List ItemKind) → IsCall words false path kinds ↔ ((path ≡ Some text) × NameKinds more kinds)
IsCall-path words first rest text more is same rest_is path kinds =
    let first_is : first ≡ codes "-f" = (bytes_eq-Decides first (codes "-f")).0 same in
    rw (is, first_is, rest_is) (path_taken text more path kinds, path_put text more path kinds)

-- `-f` alone is no call
pub IsCall-no_path : (words : List (List ℕ)) (first : List ℕ) (rest : List (List ℕ)) → words ≡ first ∷ rest → bytes_eq first (codes "-f") ≡ true → rest ≡ []
    → (path : Option (List ℕ)) (kinds : List ItemKind) → IsCall words false path kinds → ⊥
IsCall-no_path words first rest is same none path kinds call =
    let first_is : first ≡ codes "-f" = (bytes_eq-Decides first (codes "-f")).0 same in
    alone path (rw (is, first_is, none) at call)
  where
    alone : (path : Option (List ℕ)) → IsCall (codes "-f" ∷ []) false path kinds → ⊥
    alone (Some path) call = cc
    alone None call = NameKinds-unknown (codes "-f") [] kinds refl (rw (sym call.spelled) at call.named)

-- a call that is not kept has one path and the same kinds, however it is read
same_path : (words : List (List ℕ)) (path other : Option (List ℕ)) (kinds others : List ItemKind) → IsCall words false path kinds → IsCall words false other others → (path ≡ other) × (kinds ≡ others)
same_path words (Some path) other kinds others call also =
    let read = path_taken path call.names other others (rw call.spelled at also) in
    (sym read.0, NameKinds-only call.names kinds others call.named read.1)
same_path words None (Some other) kinds others call also =
    let read = path_taken other also.names None kinds (rw also.spelled at call) in
    (read.0, NameKinds-only also.names kinds others read.1 also.named)
same_path words None None kinds others call also =
    let same : call.names ≡ also.names = sym call.spelled ∙ also.spelled in
    (refl, NameKinds-only also.names kinds others (rw same at call.named) also.named)

-- words are a call in one way at most
pub IsCall-only : (words : List (List ℕ)) (keep_headers other_keep : Bool) (path other : Option (List ℕ)) (kinds others : List ItemKind) → IsCall words keep_headers path kinds → IsCall words other_keep other others
    → (keep_headers ≡ other_keep) × (path ≡ other) × (kinds ≡ others)
IsCall-only words true other_keep path other kinds others call also =
    let read = keep_taken (path_words path ++ call.names) other_keep other others (rw call.spelled at also) in
    let same = same_path _ path other kinds others (record { names = call.names; spelled = refl; named = call.named }) read.1 in
    (sym read.0, same.0, same.1)
IsCall-only words false true path other kinds others call also =
    let read = keep_taken (path_words other ++ also.names) false path kinds (rw also.spelled at call) in
    absurd (false≢true read.0)
IsCall-only words false false path other kinds others call also =
    let same = same_path words path other kinds others call also in
    (refl, same.0, same.1)
