-- Lists of numbers below a bound.
use Rattle.std.proofs.Common.{◌≡◌, ◌<◌, ℕ, zero, suc, List, [], ◌∷◌, ◌++◌, length, get_or, replicate, arith, inl, inr, IsUtf8}
use Rattle.std.specs.Str.Parse.{AllDigits}
use Rattle.std.proofs.lemmas.Bool.{cases_lt}
use Rattle.std.proofs.lemmas.List.{get_or_past}
use Rattle.std.proofs.lemmas.Str.{IsUtf8-from_ascii}
use Rattle.sentry_json.proofs.Strings.{digit_is_ascii}

-- each number is below the bound; past the end it is 0
abbrev pub Small : ℕ → List ℕ → Type 0
Small bound xs = (k : ℕ) → get_or xs k 0 < bound

pub small_nil : (bound : ℕ) → 0 < bound → Small bound []
small_nil bound some k = some

pub small_cons : (bound x : ℕ) (xs : List ℕ) → x < bound → Small bound xs → Small bound (x ∷ xs)
small_cons bound x xs first rest k = elim k as (λ j. get_or (x ∷ xs) j 0 < bound) [ zero ↦ first | suc j ↦ rest j ]

pub small_append : (bound : ℕ) (xs ys : List ℕ) → Small bound xs → Small bound ys → Small bound (xs ++ ys)
small_append bound [] ys first rest = rest
small_append bound (x ∷ xs) ys first rest = small_cons bound x (xs ++ ys) (first 0) (small_append bound xs ys (λ k. first (suc k)) rest)

pub small_zeros : (bound n : ℕ) → 0 < bound → Small bound (replicate n 0)
small_zeros bound zero some = small_nil bound some
small_zeros bound (suc n) some = small_cons bound 0 (replicate n 0) some (small_zeros bound n some)

pub small_within : (bound : ℕ) (xs : List ℕ) → 0 < bound → ((k : ℕ) → k < length xs → get_or xs k 0 < bound) → Small bound xs
small_within bound xs some within k =
    elim (cases_lt k (length xs)) [
      | inl lt ↦ within k lt
      | inr past ↦ let none : get_or xs k 0 ≡ 0 = get_or_past xs k 0 past in omega (arith, none, some)
    ]

-- bytes below 128 are ASCII
pub small_utf8 : (s : List ℕ) → Small 128 s → IsUtf8 s
small_utf8 s small = IsUtf8-from_ascii s small

-- and so are digits in base 16
pub digits_small : (ds : List ℕ) → AllDigits 16 ds → Small 128 ds
digits_small [] all = small_nil 128 (omega arith)
digits_small (c ∷ ds) all = small_cons 128 c ds (digit_is_ascii c all.0) (digits_small ds all.1)
