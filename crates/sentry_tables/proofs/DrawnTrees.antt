-- Nothing is drawn in any tree of a kind that never draws.
use Rattle.std.proofs.Common.{ℕ, List, Option, Some, None}
use Rattle.serde_json.specs.Data.{Data, Items, no_items, item, Members, no_members, member}
use Rattle.serde_json.specs.Find.{get, as_array, as_object}
use Rattle.sentry_tables.specs.Kind.{Rule, must, may, may_null, may_strict, default, always, draw, at_once, Kind, scalar, list, map, values, table, tagged, tagged_map, Rows, no_rows, row, Cases, no_cases, case, words}
use Rattle.sentry_tables.specs.Shows.{values_in, unless_null, word_at, tag_word}
use Rattle.sentry_tables.specs.Drawn.{IfGiven, EachItem, EachMember, InArray, InObject, RowHolds, NothingDrawn, RowsDrawNothing, CasesDrawNothing, IsNoDraw, NeverDraws, RowsNeverDraw, CasesNeverDraw}

-- ---- one level: what holds of each tree

module _ (Q : Data → Type 0) (point : (d : Data) → Q d) where
  in_items : (ds : Items) → EachItem Q ds
  in_items no_items = tt
  in_items (item d ds) = (point d, in_items ds)

  in_array : (o : Option Items) → InArray Q o
  in_array None = tt
  in_array (Some ds) = in_items ds

  if_given : (o : Option Data) → IfGiven Q o
  if_given None = tt
  if_given (Some d) = point d

  in_row : (r : Rule) → IsNoDraw r → (o : Option Data) → RowHolds r Q o
  in_row must n o = if_given o
  in_row may n o = if_given (unless_null o)
  in_row may_null n o = if_given (unless_null o)
  in_row may_strict n o = if_given o
  in_row (default D) n o = if_given o
  in_row (always D) n o = if_given o
  in_row (draw Drawn) n o = absurd n
  in_row at_once n o = if_given o

module _ (Q : List ℕ → Data → Type 0) (point : (k : List ℕ) (d : Data) → Q k d) where
  in_members : (ms : Members) → EachMember Q ms
  in_members no_members = tt
  in_members (member k d ms) = (point k d, in_members ms)

  in_object : (o : Option Members) → InObject Q o
  in_object None = tt
  in_object (Some ms) = in_members ms

-- ---- kinds that never draw

mutual
  pub never_drawn : (K : Kind) → NeverDraws K → (d : Data) → NothingDrawn K d
  never_drawn (scalar s) n d = tt
  never_drawn (list K) n d = in_array (NothingDrawn K) (never_drawn K n) (as_array d)
  never_drawn (map K) n d = in_object (λ k. NothingDrawn K) (λ k. never_drawn K n) (as_object d)
  never_drawn (values K) n d = in_array (NothingDrawn K) (never_drawn K n) (values_in d)
  never_drawn (table rows o) n d = rows_never rows n d
  never_drawn (tagged cases) n d = cases_never cases n (tag_word None d) d
  never_drawn (tagged_map cases fallback) n d =
      in_object (λ k e. CasesDrawNothing cases (tag_word (Some (word_at k (words cases) fallback)) e) e)
      (λ k e. cases_never cases n (tag_word (Some (word_at k (words cases) fallback)) e) e)
      (as_object d)

  rows_never : (rows : Rows) → RowsNeverDraw rows → (d : Data) → RowsDrawNothing rows d
  rows_never no_rows n d = tt
  rows_never (row k r K rows) n d = (in_row (NothingDrawn K) (never_drawn K n.1) r n.0 (get k d), rows_never rows n.2 d)

  cases_never : (cases : Cases) → CasesNeverDraw cases → (word : Option (List ℕ)) (d : Data) → CasesDrawNothing cases word d
  cases_never no_cases n word d = tt
  cases_never (case w rows o cases) n word d = (λ e. rows_never rows n.0 d, cases_never cases n.1 word d)
