-- Rows that are given to a sink one after another.
use Rattle.std.proofs.Common.{◌≡◌, ℕ, List, [], ◌∷◌, Bool, Option, Some, None, refl, sym, ap, ◌∙◌, subst}
use Rattle.serde_json.specs.Data.{Data, Members, no_members}
use Rattle.sentry_tables.specs.Cell.{Cell}
use Rattle.sentry_tables.specs.Fields.{Field, rows_of, cells_by}
use Rattle.sentry_tables.specs.Kind.{Rule, Kind}
use Rattle.sentry_tables.specs.Norm.{norm}
use Rattle.sentry_tables.specs.Written.{tree, row_tree, given, rows_given}
use Rattle.sentry_tables.specs.Meets.{RowsMeet, plain_demand, stored_demand}
use Rattle.sentry_writing.specs.Given.{both, row_given, GivesRow, GivesRows, Tested}
use Rattle.sentry_tables.specs.Writes.{written}

given-both : (k : List ℕ) (o : Option Data) (ms : Members) → both (given k o no_members) ms ≡ given k o ms
given-both k None ms = refl
given-both k (Some d) ms = refl

row_then : (k : List ℕ) (r : Rule) (K : Kind) (c : Cell) (ms : Members) → both (row_given k r K c) ms ≡ given k (row_tree r (tree K) (norm K) c) ms
unfolding row_given written
row_then k r K c ms = given-both k (row_tree r (tree K) (norm K) c) ms

module _ {S : Type 0} (Adds : S → S → Members → Type 0) (Tests : S → S → Type 0 → Type 0 → Type 0) (nothing : (s : S) → Adds s s no_members) (joined : (a b c : S) (ms ns : Members) → Adds a b ms → Adds b c ns → Adds a c (both ms ns)) where
  pub rows_added : {A : Type 0} (fs : List (Field A)) (v : A) (a z : S) → GivesRows Adds Tests fs v a z → Adds a z (rows_given (rows_of fs) (cells_by fs v))
  unfolding GivesRow
  rows_added [] v a z same = subst (λ s. Adds a s no_members) same (nothing a)
  rows_added (f ∷ fs) v a z h =
      subst (Adds a z) (row_then f.key f.rule f.kind (f.part v) (rows_given (rows_of fs) (cells_by fs v)))
      (joined a h.0 z (row_given f.key f.rule f.kind (f.part v)) (rows_given (rows_of fs) (cells_by fs v)) h.1.0 (rows_added fs v h.0 z h.2))

-- ---- plain, row by row

module _ {S : Type 0} (Adds : S → S → Members → Type 0) (seen : S → Bool) where
  pub rows_tested : {A : Type 0} (fs : List (Field A)) (v : A) (a z : S) → GivesRows Adds (λ x y P Q. Tested (seen x) (seen y) P Q) fs v a z
      → Tested (seen a) (seen z) (RowsMeet plain_demand (rows_of fs) (cells_by fs v)) (RowsMeet stored_demand (rows_of fs) (cells_by fs v))
  unfolding GivesRow
  rows_tested [] v a z same = ((λ e. (ap seen same ∙ e, tt), λ h. sym (ap seen same) ∙ h.0), λ e. (ap seen same ∙ e, tt))
  rows_tested (f ∷ fs) v a z h =
      let first = h.1.1 in
      let rest = rows_tested fs v h.0 z h.2 in
      ((λ e. let p = rest.0.0 e in let q = first.0.0 p.0 in (q.0, (q.1, p.1)), λ p. rest.0.1 (first.0.1 (p.0, p.1.0), p.1.1)), λ e. let p = rest.1 e in let q = first.1 p.0 in (q.0, (q.1, p.1)))
