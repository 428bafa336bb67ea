-- What the scan of a piece computes: what is left after the brace that closes it.
use Rattle.std.proofs.Common.{◌≡◌, ◌≢◌, ℕ, ◌+◌, ◌-◌, ◌==◌, if◌then◌else◌, eqb, false, List, [], ◌∷◌, Option, Some, None, refl, ne_eqb, arith}

-- what a byte is read as, inside a piece
pub data Place : Type 0 where
  Plain : Place
  InString : Place
  AfterBackslash : Place

unfoldable pub rest_after : List ℕ → Place → ℕ → Option (List ℕ)
rest_after [] place depth = None
rest_after (b ∷ bs) Plain depth =
    if b == 34 then rest_after bs InString depth else
    (if b == 123 then rest_after bs Plain (depth + 1) else
    (if b == 125 then (if depth == 0 then Some bs else rest_after bs Plain (depth - 1)) else rest_after bs Plain depth))
rest_after (b ∷ bs) InString depth =
    if b == 34 then rest_after bs Plain depth else
    (if b == 92 then rest_after bs AfterBackslash depth else rest_after bs InString depth)
rest_after (b ∷ bs) AfterBackslash depth = rest_after bs InString depth

module _ (b : ℕ) (bs : List ℕ) (depth : ℕ) where
  pub plain_other : b ≢ 34 → b ≢ 123 → b ≢ 125 → rest_after (b ∷ bs) Plain depth ≡ rest_after bs Plain depth
  unfolding rest_after
  plain_other q o c =
      let q' : eqb b 34 ≡ false = ne_eqb b 34 q in
      let o' : eqb b 123 ≡ false = ne_eqb b 123 o in
      let c' : eqb b 125 ≡ false = ne_eqb b 125 c in
      rw (q', o', c')

  pub string_other : b ≢ 34 → b ≢ 92 → rest_after (b ∷ bs) InString depth ≡ rest_after bs InString depth
  unfolding rest_after
  string_other q e =
      let q' : eqb b 34 ≡ false = ne_eqb b 34 q in
      let e' : eqb b 92 ≡ false = ne_eqb b 92 e in
      rw (q', e')

  pub escaped : rest_after (b ∷ bs) AfterBackslash depth ≡ rest_after bs InString depth
  unfolding rest_after
  escaped = refl

module _ (bs : List ℕ) (depth : ℕ) where
  pub plain_quote : rest_after (34 ∷ bs) Plain depth ≡ rest_after bs InString depth
  unfolding rest_after
  plain_quote = refl

  pub plain_open : rest_after (123 ∷ bs) Plain depth ≡ rest_after bs Plain (depth + 1)
  unfolding rest_after
  plain_open = refl

  pub plain_close : rest_after (125 ∷ bs) Plain (depth + 1) ≡ rest_after bs Plain depth
  unfolding rest_after
  plain_close =
      let ne : eqb (depth + 1) 0 ≡ false = ne_eqb (depth + 1) 0 (λ e. omega arith) in
      let down : depth + 1 - 1 ≡ depth = omega arith in
      rw (ne, down)

  pub plain_close_at : depth ≢ 0 → rest_after (125 ∷ bs) Plain depth ≡ rest_after bs Plain (depth - 1)
  unfolding rest_after
  plain_close_at nested =
      let ne : eqb depth 0 ≡ false = ne_eqb depth 0 nested in
      rw ne

  pub string_quote : rest_after (34 ∷ bs) InString depth ≡ rest_after bs Plain depth
  unfolding rest_after
  string_quote = refl

  pub string_backslash : rest_after (92 ∷ bs) InString depth ≡ rest_after bs AfterBackslash depth
  unfolding rest_after
  string_backslash = refl

pub plain_last : (bs : List ℕ) → rest_after (125 ∷ bs) Plain 0 ≡ Some bs
unfolding rest_after
plain_last bs = refl

pub nothing_left : (place : Place) (depth : ℕ) → rest_after [] place depth ≡ None
unfolding rest_after
nothing_left Plain depth = refl
nothing_left InString depth = refl
nothing_left AfterBackslash depth = refl
