-- The members that rows give: put among others, and alone, where the keys stand in order.
use Rattle.std.proofs.Common.{◌≡◌, ℕ, List, true, Option, Some, None, Ordering, Less, Equal, Greater, nat_cmp, refl, sym, ap, ◌∙◌}
use Rattle.std.proofs.lemmas.Bool.{and_parts, false≢true}
use Rattle.std.proofs.lemmas.Cmp.{nat_list_cmp_total}
use Rattle.std.specs.Ordering.{is_lt, ordering_reverse}
use Rattle.std.specs.Cmp.Lexicographic.{slice_cmp}
use Rattle.serde_json.specs.Data.{Data, Members, no_members, member, put}
use Rattle.sentry_json.specs.Sound.{AllAfter, IsOrdered}
use Rattle.sentry_tables.specs.Cell.{Cells, no_cells, cell}
use Rattle.sentry_tables.specs.Kind.{Rows, no_rows, row, keys}
use Rattle.sentry_tables.specs.Norm.{norm}
use Rattle.sentry_tables.specs.Written.{row_tree, put_given, tree, rows_tree, given, rows_given, put_all, is_before, in_order}

-- ---- among others

put_all_given : (k : List ℕ) (o : Option Data) (ms others : Members) → put_all (given k o ms) others ≡ put_all ms (put_given k o others)
put_all_given k None ms others = refl
put_all_given k (Some d) ms others = refl

-- the rows are put among the members one after another
pub rows_tree_put : (rows : Rows) (cs : Cells) (ms : Members) → rows_tree rows cs ms ≡ put_all (rows_given rows cs) ms
rows_tree_put no_rows cs ms = refl
rows_tree_put (row k r K rows) no_cells ms = refl
rows_tree_put (row k r K rows) (cell c cs) ms =
    let o = row_tree r (tree K) (norm K) c in
    rows_tree_put rows cs (put_given k o ms) ∙ sym (put_all_given k o (rows_given rows cs) ms)

-- ---- alone

is_less : (o : Ordering) → is_lt o ≡ true → o ≡ Less
is_less Less e = refl
is_less Equal e = absurd (false≢true e)
is_less Greater e = absurd (false≢true e)

given_after : (k l : List ℕ) (o : Option Data) (ms : Members) → slice_cmp nat_cmp k l ≡ Less → AllAfter k ms → AllAfter k (given l o ms)
given_after k l None ms e h = h
given_after k l (Some d) ms e h = (e, h)

rows_after : (k : List ℕ) (rows : Rows) (cs : Cells) → is_before k (keys rows) ≡ true → AllAfter k (rows_given rows cs)
rows_after k no_rows cs e = tt
rows_after k (row l r K rows) no_cells e = tt
rows_after k (row l r K rows) (cell c cs) e =
    let p = and_parts _ _ e in
    given_after k l (row_tree r (tree K) (norm K) c) (rows_given rows cs) (is_less (slice_cmp nat_cmp k l) p.0) (rows_after k rows cs p.1)

given_ordered : (k : List ℕ) (o : Option Data) (ms : Members) → AllAfter k ms → IsOrdered ms → IsOrdered (given k o ms)
given_ordered k None ms a h = h
given_ordered k (Some d) ms a h = (a, h)

-- rows in order give members in order
pub rows_given_ordered : (rows : Rows) (cs : Cells) → in_order (keys rows) ≡ true → IsOrdered (rows_given rows cs)
rows_given_ordered no_rows cs e = tt
rows_given_ordered (row k r K rows) no_cells e = tt
rows_given_ordered (row k r K rows) (cell c cs) e =
    let p = and_parts _ _ e in
    given_ordered k (row_tree r (tree K) (norm K) c) (rows_given rows cs) (rows_after k rows cs p.0) (rows_given_ordered rows cs p.1)

put_later : (l k : List ℕ) (e d : Data) (rest : Members) → slice_cmp nat_cmp l k ≡ Greater → put l e (member k d rest) ≡ member k d (put l e rest)
put_later l k e d rest is = rw is

-- members of later keys are put after the first
pub put_all_later : (k : List ℕ) (d : Data) (ms rest : Members) → AllAfter k ms → put_all ms (member k d rest) ≡ member k d (put_all ms rest)
put_all_later k d no_members rest h = refl
put_all_later k d (member l e ms) rest h =
    let above : slice_cmp nat_cmp l k ≡ Greater = nat_list_cmp_total.antisymm l k ∙ ap ordering_reverse h.0 in
    ap (put_all ms) (put_later l k e d rest above) ∙ put_all_later k d ms (put l e rest) h.1

-- members in order, put one after another, stand as they are
pub put_all_ordered : (ms : Members) → IsOrdered ms → put_all ms no_members ≡ ms
put_all_ordered no_members h = refl
put_all_ordered (member k d ms) h = put_all_later k d ms no_members h.0 ∙ ap (member k d) (put_all_ordered ms h.1)

pub rows_tree_in_order : (rows : Rows) (cs : Cells) → in_order (keys rows) ≡ true → rows_tree rows cs no_members ≡ rows_given rows cs
rows_tree_in_order rows cs e = rows_tree_put rows cs no_members ∙ put_all_ordered (rows_given rows cs) (rows_given_ordered rows cs e)
