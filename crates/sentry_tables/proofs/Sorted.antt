-- The entries of a map, in the order of their keys.
use Rattle.std.proofs.Common.{◌≡◌, List, [], ◌∷◌, ◌++◌, String, Global, string_bytes, string_cmp, nat_cmp, Ordering, Less, Greater, refl, ap, ◌∙◌}
use Rattle.std.proofs.lemmas.Cmp.{nat_list_cmp_total}
use Rattle.std.specs.Cmp.Lexicographic.{slice_cmp}
use Rattle.std.specs.List.{AllByRecursion}
use Rattle.std.specs.Map.{keys_of}
use Rattle.std.specs.Ordering.{match_ordering, ordering_reverse}
use Rattle.sentry_tables.specs.Cell.{Cell, entry}
use Rattle.sentry_tables.specs.Cells.{entries}

abbrev pub MapEntry : Type 0 → Type 0
MapEntry A = String Global × A

below : {A : Type 0} (first : MapEntry A) (es : List (MapEntry A)) (e : MapEntry A) (more : List (MapEntry A)) → AllByRecursion (λ y. string_cmp first.0 y ≡ Less) (keys_of (es ++ e ∷ more)) → string_cmp first.0 e.0 ≡ Less
below first [] e more h = h.0
below first (x ∷ es) e more h = below first es e more h.1

pub above_first : {A : Type 0} (first : MapEntry A) (es : List (MapEntry A)) (e : MapEntry A) (more : List (MapEntry A)) → AllByRecursion (λ y. string_cmp first.0 y ≡ Less) (keys_of (es ++ e ∷ more)) → slice_cmp nat_cmp (string_bytes e.0) (string_bytes first.0) ≡ Greater
above_first first es e more h = nat_list_cmp_total.antisymm (string_bytes e.0) (string_bytes first.0) ∙ ap ordering_reverse (below first es e more h)

-- an entry above the first is put among the others
pub put_at : {A : Type 0} (f : A → Cell) (first : MapEntry A) (es inserted : List (MapEntry A)) (name : String Global) (x : A) (o : Ordering) → string_cmp name first.0 ≡ o → o ≡ Greater
    → entries f (match_ordering o ((name, x) ∷ first ∷ es) ((first.0, x) ∷ es) (first ∷ inserted)) ≡ entry (string_bytes first.0) (f first.1) (entries f inserted)
put_at f first es inserted name x o is e = rw e refl
