-- The items of a header, cut at `=`.
use Rattle.std.proofs.Common.{◌≡◌, ◌==◌, ◌<◌, ◌≤◌, ℕ, ◌⊎◌, inl, inr, not, Bool, List, [], ◌∷◌, length, Some, None, sym, ap, ◌∙◌, arith}
use Rattle.std.specs.List.{slice_split, before_first, after_first, position_or_len}
use Rattle.std.specs.Str.{trim}
use Rattle.std.proofs.lemmas.List.Splits.{slice_split_none, slice_split_first}
use Rattle.std.proofs.lemmas.Bool.{cases_lt}
use Rattle.std.proofs.lemmas.List.Sums.{fails_before_first, prefix_len-le-length}
use Rattle.std.proofs.lemmas.List.{take_all}
use Rattle.sentry_keys.specs.AuthText.{first_two, item_pair}

whole : (p : ℕ → Bool) (xs : List ℕ) → position_or_len p xs ≡ length xs → slice_split p xs ≡ xs ∷ []
whole p xs e = slice_split_none p xs (λ k d h. fails_before_first p xs k d (omega (arith, e, h)))

-- without an `=` an item is no pair
pub no_pair : (item : List ℕ) → position_or_len (λ b. b == 61) item ≡ length item → item_pair item ≡ None
unfolding item_pair
no_pair item e = ap first_two (whole (λ b. b == 61) item e)

-- the first of the parts ends at the first `=`
pub record HasFirst (xs : List ℕ) : Type 0 where
  pub more : List (List ℕ)
  pub parts : slice_split (λ b. b == 61) xs ≡ before_first (λ b. b == 61) xs ∷ more

first_part : (xs : List ℕ) → HasFirst xs
first_part xs = go (cases_lt (position_or_len (λ b. b == 61) xs) (length xs))
  where
    go : (position_or_len (λ b. b == 61) xs < length xs) ⊎ (length xs ≤ position_or_len (λ b. b == 61) xs) → HasFirst xs
    go (inl some) = record { more = slice_split (λ b. b == 61) (after_first (λ b. b == 61) xs); parts = slice_split_first (λ b. b == 61) xs 0 some }
    go (inr none) =
        let all : position_or_len (λ b. b == 61) xs ≡ length xs = omega (arith, none, prefix_len-le-length (λ b. not (b == 61)) xs) in
        record { more = []; parts = whole (λ b. b == 61) xs all ∙ ap (λ f. f ∷ []) (sym (take_all (position_or_len (λ b. b == 61) xs) xs (omega (arith, all)))) }

pub a_pair : (item key rest value : List ℕ) → position_or_len (λ b. b == 61) item < length item → key ≡ before_first (λ b. b == 61) item → rest ≡ after_first (λ b. b == 61) item → value ≡ before_first (λ b. b == 61) rest
    → item_pair item ≡ Some (trim key, trim value)
unfolding item_pair
a_pair item key rest value some is after cut =
    let more = first_part rest in
    let parts : slice_split (λ b. b == 61) item ≡ key ∷ value ∷ more.more =
    slice_split_first (λ b. b == 61) item 0 some ∙ ap (λ k. k ∷ slice_split (λ b. b == 61) (after_first (λ b. b == 61) item)) (sym is)
    ∙ ap (λ r. key ∷ slice_split (λ b. b == 61) r) (sym after) ∙ ap (λ ps. key ∷ ps) (more.parts ∙ ap (λ v. v ∷ more.more) (sym cut)) in
    ap first_two parts
