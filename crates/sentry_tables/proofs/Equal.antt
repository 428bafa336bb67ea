-- What `==` says of values: they are equal exactly where their cells are the same.
use Rattle.std.proofs.Common.{Global, String, ◌≡◌, ◌&&◌, ◌==◌, ℕ, ℤ, Bool, List, [], ◌∷◌, Option, Some, None, refl, ap, string_bytes, Decides}
use Rattle.std.proofs.lemmas.Bool.Decides.{Decides-and, Decides-like, Decides-eqb, Decides-int_eq}
use Rattle.std.proofs.lemmas.Slice.Eq.{bytes_eq-Decides}
use lib.Pointwise.{pointwise}
use Rattle.std.specs.Option.{option_eq}
use Rattle.std.specs.Ordering.{int_eq}
use Rattle.std.specs.String.{string_eq}
use Rattle.sentry_tables.specs.Cell.{Cell, text, whole, sequence, mapping}
use Rattle.sentry_tables.specs.Cells.{text_cell, natural_cell, option_cell, list_cell, cells, map_cell, entries}

pub texts_decide : (a b : String Global) → Decides (string_eq a b) (text_cell a ≡ text_cell b)
texts_decide a b = Decides-like (string_eq a b) (λ same. ap text same) (λ same. cc) (bytes_eq-Decides (string_bytes a) (string_bytes b))

pub naturals_decide : (m n : ℕ) → Decides (m == n) (natural_cell m ≡ natural_cell n)
naturals_decide m n = Decides-like (m == n) (λ same. ap natural_cell same) (λ same. cc) (Decides-eqb m n)

pub wholes_decide : (m n : ℤ) → Decides (int_eq m n) (whole m ≡ whole n)
wholes_decide m n = Decides-like (int_eq m n) (λ same. ap whole same) (λ same. cc) (Decides-int_eq m n)

-- of options, lists and maps, where `E` decides which of their values are the same
module _ {A : Type 0} (E : A → A → Bool) (f : A → Cell) (each : (a b : A) → Decides (E a b) (f a ≡ f b)) where
  pub options_decide : (x y : Option A) → Decides (option_eq E x y) (option_cell f x ≡ option_cell f y)
  options_decide None None = (λ same. refl, λ same. refl)
  options_decide None (Some b) = (λ same. cc, λ same. cc)
  options_decide (Some a) None = (λ same. cc, λ same. cc)
  options_decide (Some a) (Some b) = (λ same. let e = (each a b).0 same in cc, λ same. (each a b).1 (cc))

  cells_decide : (xs ys : List A) → Decides (pointwise E xs ys) (cells f xs ≡ cells f ys)
  cells_decide [] [] = (λ same. refl, λ same. refl)
  cells_decide [] (y ∷ ys) = (λ same. cc, λ same. cc)
  cells_decide (x ∷ xs) [] = (λ same. cc, λ same. cc)
  cells_decide (x ∷ xs) (y ∷ ys) =
      let both = Decides-and (E x y) (pointwise E xs ys) (each x y) (cells_decide xs ys) in
      (λ same. let e = both.0 same in let first = e.0 in let rest = e.1 in cc, λ same. both.1 (cc, cc))

  pub lists_decide : (xs ys : List A) → Decides (pointwise E xs ys) (list_cell f xs ≡ list_cell f ys)
  lists_decide xs ys = Decides-like (pointwise E xs ys) (λ same. ap sequence same) (λ same. cc) (cells_decide xs ys)

  abbrev pub same_entry : String Global × A → String Global × A → Bool
  same_entry p q = string_eq p.0 q.0 && E p.1 q.1

  entries_decide : (xs ys : List (String Global × A)) → Decides (pointwise same_entry xs ys) (entries f xs ≡ entries f ys)
  entries_decide [] [] = (λ same. refl, λ same. refl)
  entries_decide [] (y ∷ ys) = (λ same. cc, λ same. cc)
  entries_decide (x ∷ xs) [] = (λ same. cc, λ same. cc)
  entries_decide (x ∷ xs) (y ∷ ys) =
      let both = Decides-and _ _ (Decides-and _ _ (texts_decide x.0 y.0) (each x.1 y.1)) (entries_decide xs ys) in
      (λ same. let e = both.0 same in let key = e.0.0 in let value = e.0.1 in let rest = e.1 in cc, λ same. both.1 ((cc, cc), cc))

  pub maps_decide : (xs ys : List (String Global × A)) → Decides (pointwise same_entry xs ys) (map_cell f xs ≡ map_cell f ys)
  maps_decide xs ys = Decides-like (pointwise same_entry xs ys) (λ same. ap mapping same) (λ same. cc) (entries_decide xs ys)
