-- From the members that rows give to the value of a table.
use Rattle.std.proofs.Common.{◌≡◌, ℕ, List, Option, None, true, refl, Result, Ok, sym, ap, ◌∙◌, subst}
use Rattle.std.specs.Prelude.{OnOk, codes}
use Rattle.json.specs.Token.{Token}
use Rattle.json.specs.Written.{Written, Writes}
use Rattle.serde_json.specs.Data.{Data, string, object, Members, no_members, member, put}
use Rattle.sentry_tables.specs.Fields.{Field, rows_of, cells_by, table_of, fields_by}
use Rattle.sentry_tables.specs.Cell.{Cell, fields}
use Rattle.sentry_tables.specs.Kind.{Kind, Other, keys, must, list, values, table, tag}
use Rattle.sentry_tables.specs.Written.{rows_given, put_all, in_order}
use Rattle.sentry_tables.proofs.Given.{rows_tree_put, rows_given_ordered, put_all_ordered}
use Rattle.sentry_tables.specs.Cells.{list_cell}
use Rattle.sentry_tables.specs.Writes.{written, WritesTree, WritesMembers}
use Rattle.sentry_tables.proofs.Tokens.{object_wrote}
use Rattle.sentry_writing.specs.Failing.{While}
use Rattle.sentry_writing.specs.Given.{row_given, case_written}
use Rattle.sentry_writing.proofs.Merging.{put_among}

-- what was done while nothing failed
pub while_none : {E : Type 0} (P : Type 0) (before after : Option E) → While before after P → after ≡ None → P
unfolding While
while_none P before after h none = (h none).1

pub while_begun : {E : Type 0} (P : Type 0) (before after : Option E) → While before after P → after ≡ None → before ≡ None
unfolding While
while_begun P before after h none = (h none).0

-- ---- rows put among other members, and a tag

module _ {A : Type 0} (fs : List (Field A)) (v : A) where
  pub table_is : (before : Members) → before ≡ no_members → object (put_all (rows_given (rows_of fs) (cells_by fs v)) before) ≡ written (table_of fs) (fields_by fs v)
  unfolding written
  table_is before none = ap object (ap (put_all (rows_given (rows_of fs) (cells_by fs v))) none ∙ sym (rows_tree_put (rows_of fs) (cells_by fs v) no_members))

  pub in_order_is : in_order (keys (rows_of fs)) ≡ true → object (rows_given (rows_of fs) (cells_by fs v)) ≡ written (table_of fs) (fields_by fs v)
  in_order_is order = ap object (sym (put_all_ordered (rows_given (rows_of fs) (cells_by fs v)) (rows_given_ordered (rows_of fs) (cells_by fs v) order))) ∙ table_is no_members refl

  pub kept_is : (o : Other) (before others : Members) → before ≡ others → object (put_all (rows_given (rows_of fs) (cells_by fs v)) before) ≡ written (table (rows_of fs) o) (fields (cells_by fs v) others)
  unfolding written
  kept_is o before others is = ap object (ap (put_all (rows_given (rows_of fs) (cells_by fs v))) is ∙ sym (rows_tree_put (rows_of fs) (cells_by fs v) others))

  pub kept_text : in_order (keys (rows_of fs)) ≡ true → (o : Other) (tagged before others : Members) → tagged ≡ no_members → before ≡ others
      → object (put_all (put_all (rows_given (rows_of fs) (cells_by fs v)) tagged) before) ≡ written (table (rows_of fs) o) (fields (cells_by fs v) others)
  kept_text order o tagged before others none is =
      ap object (ap (λ t. put_all (put_all (rows_given (rows_of fs) (cells_by fs v)) t) before) none ∙ ap (λ x. put_all x before) (put_all_ordered (rows_given (rows_of fs) (cells_by fs v)) (rows_given_ordered (rows_of fs) (cells_by fs v) order)))
      ∙ kept_is o before others is

  pub case_is : (word : List ℕ) (before others : Members) → before ≡ put tag (string word) others → object (put_all (rows_given (rows_of fs) (cells_by fs v)) before) ≡ case_written word (rows_of fs) (cells_by fs v) others
  unfolding case_written
  case_is word before others is = ap object (ap (put_all (rows_given (rows_of fs) (cells_by fs v))) is ∙ sym (rows_tree_put (rows_of fs) (cells_by fs v) (put tag (string word) others)))

  pub case_text : in_order (keys (rows_of fs)) ≡ true → (word : List ℕ) (tagged others : Members) → tagged ≡ member tag (string word) no_members
      → object (put_all (put_all (rows_given (rows_of fs) (cells_by fs v)) tagged) others) ≡ case_written word (rows_of fs) (cells_by fs v) others
  case_text order word tagged others is =
      ap object (ap (λ t. put_all (put_all (rows_given (rows_of fs) (cells_by fs v)) t) others) is ∙ put_among tag (string word) (rows_given (rows_of fs) (cells_by fs v)) others (rows_given_ordered (rows_of fs) (cells_by fs v) order))
      ∙ case_is word (put tag (string word) others) others refl

-- ---- lists under the key `values`

values_given : {A : Type 0} (K : Kind) (f : A → Cell) (xs : List A) → object (row_given (codes "values") must (list K) (list_cell f xs)) ≡ written (values K) (list_cell f xs)
unfolding written row_given
values_given K f xs = refl

pub values_is : {A : Type 0} (K : Kind) (f : A → Cell) (xs : List A) (d : Data) (old new : Members) → d ≡ object new → new ≡ put_all (row_given (codes "values") must (list K) (list_cell f xs)) old → old ≡ no_members → d ≡ written (values K) (list_cell f xs)
unfolding written row_given
values_is K f xs d old new is made empty = is ∙ ap object (made ∙ ap (put_all (row_given (codes "values") must (list K) (list_cell f xs))) empty)

pub values_wrote : {A E F : Type 0} (K : Kind) (f : A → Cell) (xs : List A) (r : Result (Unit {0}) E) (a b c d : Written) → Writes {E = F} (Ok tt) a b Token.begin_object → WritesMembers (row_given (codes "values") must (list K) (list_cell f xs)) b c → Writes r c d Token.end_object
    → OnOk r (WritesTree (written (values K) (list_cell f xs)) a d)
values_wrote K f xs r a b c d x y z = subst (λ t. OnOk r (WritesTree t a d)) (values_given K f xs) (object_wrote _ r a b c d x y z)
