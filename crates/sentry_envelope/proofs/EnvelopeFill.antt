-- How an id fills an absent cell of a header: of a table with rows in the order of their keys, at
-- the row that holds ids.
use Rattle.std.proofs.Common.{◌≡◌, ◌≤◌, ℕ, zero, suc, List, Bool, true, false, cond, Option, Some, None, nat_cmp, Less, Greater, refl, sym, ap, ap₂, ◌∙◌, subst, arith, true≢false}
use Rattle.std.proofs.lemmas.Bool.{and_parts}
use Rattle.std.proofs.lemmas.Cmp.{nat_list_cmp_total}
use Rattle.std.specs.Ordering.{ordering_reverse}
use Rattle.std.specs.Cmp.Lexicographic.{slice_cmp}
use Rattle.std.specs.Prelude.{⊤}
use Rattle.serde_json.specs.Data.{Data, object, Members, no_members, member, depth, members_depth}
use Rattle.sentry_json.specs.Sound.{AllAfter}
use Rattle.sentry_tables.specs.Cell.{Cell, absent, present, fields, Cells, no_cells, cell}
use Rattle.sentry_tables.specs.Kind.{Rule, must, may, ignored, Kind, table, Rows, no_rows, row, keys}
use Rattle.sentry_tables.specs.Norm.{norm, rows_norm, row_norm, is_null_of}
use Rattle.sentry_tables.specs.Written.{tree, rows_tree, row_tree, given, rows_given, in_order}
use Rattle.sentry_tables.specs.Meets.{Demand, Meets, RowsMeet, stored_demand, plain_demand, readable_demand, IsStored, IsPlain, IsReadable}
use Rattle.sentry_tables.specs.Lawful.{IsNormal}
use Rattle.sentry_tables.proofs.Given.{rows_given_ordered, rows_tree_in_order}
use Rattle.sentry_envelope.specs.Profile.{FillLaws}

-- the cell at this place is the id, where it is absent
abbrev pub fill_cells : ℕ → Cell → Cells → Cells
fill_cells n id no_cells = no_cells
fill_cells zero id (cell absent cs) = cell (present id) cs
fill_cells zero id (cell c cs) = cell c cs
fill_cells (suc n) id (cell c cs) = cell c (fill_cells n id cs)

abbrev pub fill_place : ℕ → Cell → Cell → Cell
fill_place n id (fields cs other) = fields (fill_cells n id cs) other
fill_place n id h = h

-- the cell at this place is absent
abbrev clear_cells : ℕ → Cells → Cells
clear_cells n no_cells = no_cells
clear_cells zero (cell c cs) = cell absent cs
clear_cells (suc n) (cell c cs) = cell c (clear_cells n cs)

abbrev pub clear_place : ℕ → Cell → Cell
clear_place n (fields cs other) = fields (clear_cells n cs) other
clear_place n h = h

-- a value is stored and plain, and is written as its normal form is
abbrev pub IsWrittenAsNormal : Kind → Cell → Type 0
IsWrittenAsNormal K c = IsStored K c × IsPlain K c × (tree K c ≡ tree K (norm K c))

-- the row at this place is optional
abbrev pub IsOptionalRow : Rows → ℕ → Type 0
IsOptionalRow no_rows n = ⊥
IsOptionalRow (row k may K rows) zero = ⊤
IsOptionalRow (row k _ K rows) zero = ⊥
IsOptionalRow (row k r K rows) (suc n) = IsOptionalRow rows n

-- an optional row of ids: the id is normal, no value of its kind is null, and the id's tree is no
-- array and no object
abbrev pub IsIdOf : Rule → Kind → Cell → Type 0
IsIdOf may K id = IsNormal K id × ((c : Cell) → is_null_of K c ≡ false) × (depth (tree K id) ≡ 0)
IsIdOf _ K id = ⊥

-- the row at this place is one
abbrev pub IsIdRow : Rows → ℕ → Cell → Type 0
IsIdRow no_rows n id = ⊥
IsIdRow (row k r K rows) zero id = IsIdOf r K id
IsIdRow (row k r K rows) (suc n) id = IsIdRow rows n id

-- ---- written members

not_before_itself : (k : List ℕ) → slice_cmp nat_cmp k k ≡ Less → ⊥
not_before_itself k e = let apart : Less ≡ Greater = sym e ∙ nat_list_cmp_total.antisymm k k ∙ ap ordering_reverse e in cc

given_same : (k : List ℕ) (o p : Option Data) (ms ns : Members) → AllAfter k ms → AllAfter k ns → given k o ms ≡ given k p ns → (o ≡ p) × (ms ≡ ns)
given_same k None None ms ns a b e = (refl, e)
given_same k None (Some d) ms ns a b e = absurd (not_before_itself k (subst (AllAfter k) e a).0)
given_same k (Some d) None ms ns a b e = absurd (not_before_itself k (subst (AllAfter k) (sym e) b).0)
given_same k (Some c) (Some d) ms ns a b e = (cc, cc)

-- the members of the later rows have later keys
later_after : (k : List ℕ) (r : Rule) (K : Kind) (rows : Rows) (cs : Cells) → in_order (keys (row k r K rows)) ≡ true → AllAfter k (rows_given rows cs)
later_after k r K rows cs order = (rows_given_ordered (row k must K rows) (cell absent cs) order).0

-- members that are given alike by a normal form are alike, the first and the others
norm_parts : (k : List ℕ) (r : Rule) (K : Kind) (rows : Rows) (c : Cell) (cs : Cells) → in_order (keys (row k r K rows)) ≡ true → rows_given (row k r K rows) (cell c cs) ≡ rows_given (row k r K rows) (rows_norm (row k r K rows) (cell c cs))
    → (row_tree r (tree K) (norm K) c ≡ row_tree r (tree K) (norm K) (row_norm r (is_null_of K) (norm K) c)) × (rows_given rows cs ≡ rows_given rows (rows_norm rows cs))
norm_parts k r K rows c cs order e =
    given_same k (row_tree r (tree K) (norm K) c) (row_tree r (tree K) (norm K) (row_norm r (is_null_of K) (norm K) c)) (rows_given rows cs) (rows_given rows (rows_norm rows cs)) (later_after k r K rows cs order) (later_after k r K rows (rows_norm rows cs) order) e

-- ---- without the cell of an optional row

cleared_meet : (G : Demand) (rows : Rows) (n : ℕ) (cs : Cells) → IsOptionalRow rows n → RowsMeet G rows cs → RowsMeet G rows (clear_cells n cs)
cleared_meet G no_rows n cs own m = absurd own
cleared_meet G (row k r K rows) n no_cells own m = absurd m
cleared_meet G (row k may K rows) zero (cell c cs) own m = (tt, m.1)
cleared_meet G (row k _ K rows) zero (cell c cs) own m = absurd own
cleared_meet G (row k r K rows) (suc n) (cell c cs) own m = (m.0, cleared_meet G rows n cs own m.1)

cleared_same : (rows : Rows) (n : ℕ) (cs : Cells) → in_order (keys rows) ≡ true → IsOptionalRow rows n → RowsMeet stored_demand rows cs → rows_given rows cs ≡ rows_given rows (rows_norm rows cs)
    → rows_given rows (clear_cells n cs) ≡ rows_given rows (rows_norm rows (clear_cells n cs))
cleared_same no_rows n cs order own m e = absurd own
cleared_same (row k r K rows) n no_cells order own m e = absurd m
cleared_same (row k may K rows) zero (cell c cs) order own m e = (norm_parts k may K rows c cs order e).1
cleared_same (row k _ K rows) zero (cell c cs) order own m e = absurd own
cleared_same (row k r K rows) (suc n) (cell c cs) order own m e =
    let parts = norm_parts k r K rows c cs order e in
    ap₂ (given k) parts.0 (cleared_same rows n cs (and_parts _ _ order).1 own m.1 parts.1)

-- ---- cells

module _ (id : Cell) where
  cells_meet : (G : Demand) → ((K : Kind) → IsNormal K id → Meets G K id) → (rows : Rows) (n : ℕ) (cs : Cells) → IsIdRow rows n id → RowsMeet G rows cs → RowsMeet G rows (fill_cells n id cs)
  cells_meet G point no_rows n cs own m = absurd own
  cells_meet G point (row k r K rows) n no_cells own m = absurd m
  cells_meet G point (row k may K rows) zero (cell absent cs) own m = (point K own.0, m.1)
  cells_meet G point (row k may K rows) zero (cell _ cs) own m = m
  cells_meet G point (row k _ K rows) zero (cell c cs) own m = absurd own
  cells_meet G point (row k r K rows) (suc n) (cell c cs) own m = (m.0, cells_meet G point rows n cs own m.1)

  cells_twice : (n : ℕ) (cs : Cells) → fill_cells n id (fill_cells n id cs) ≡ fill_cells n id cs
  cells_twice n no_cells = refl
  cells_twice zero (cell absent cs) = refl
  cells_twice zero (cell _ cs) = refl
  cells_twice (suc n) (cell c cs) = ap (cell c) (cells_twice n cs)

  -- a present cell that isn't null stays
  stays : (b : Bool) (x : Cell) (cs : Cells) → b ≡ false → fill_cells zero id (cell (cond b absent (present x)) cs) ≡ cell (cond b absent (present x)) cs
  stays true x cs e = absurd (true≢false e)
  stays false x cs e = refl

  id_norm : (b : Bool) (x : Cell) → b ≡ false → x ≡ id → cond b absent (present x) ≡ present id
  id_norm true x e is = absurd (true≢false e)
  id_norm false x e is = ap present is

  cells_norm : (rows : Rows) (n : ℕ) (cs : Cells) → IsIdRow rows n id → RowsMeet stored_demand rows cs → rows_norm rows (fill_cells n id cs) ≡ fill_cells n id (rows_norm rows cs)
  cells_norm no_rows n cs own m = absurd own
  cells_norm (row k r K rows) n no_cells own m = absurd m
  cells_norm (row k may K rows) zero (cell absent cs) own m = ap (λ c. cell c (rows_norm rows cs)) (id_norm (is_null_of K id) (norm K id) (own.1 id) own.0.3)
  cells_norm (row k may K rows) zero (cell (present c) cs) own m = sym (stays (is_null_of K c) (norm K c) (rows_norm rows cs) (own.1 c))
  cells_norm (row k may K rows) zero (cell _ cs) own m = absurd m.0
  cells_norm (row k _ K rows) zero (cell c cs) own m = absurd own
  cells_norm (row k r K rows) (suc n) (cell c cs) own m = ap (cell (row_norm r (is_null_of K) (norm K) c)) (cells_norm rows n cs own m.1)

  members_same : (rows : Rows) (n : ℕ) (cs : Cells) → in_order (keys rows) ≡ true → IsIdRow rows n id → RowsMeet stored_demand rows cs → rows_given rows cs ≡ rows_given rows (rows_norm rows cs)
      → rows_given rows (fill_cells n id cs) ≡ rows_given rows (fill_cells n id (rows_norm rows cs))
  members_same no_rows n cs order own m e = absurd own
  members_same (row k r K rows) n no_cells order own m e = absurd m
  members_same (row k may K rows) zero (cell absent cs) order own m e = ap (member k (tree K id)) e
  members_same (row k may K rows) zero (cell (present c) cs) order own m e =
      e ∙ ap (rows_given (row k may K rows)) (sym (stays (is_null_of K c) (norm K c) (rows_norm rows cs) (own.1 c)))
  members_same (row k may K rows) zero (cell _ cs) order own m e = absurd m.0
  members_same (row k _ K rows) zero (cell c cs) order own m e = absurd own
  members_same (row k r K rows) (suc n) (cell c cs) order own m e =
      let parts = norm_parts k r K rows c cs order e in
      ap₂ (given k) parts.0 (members_same rows n cs (and_parts _ _ order).1 own m.1 parts.1)

  given_deep : (k : List ℕ) (o : Option Data) (ms ns : Members) → members_depth ms ≤ members_depth ns → members_depth (given k o ms) ≤ members_depth (given k o ns)
  given_deep k None ms ns h = h
  given_deep k (Some d) ms ns h = omega arith

  members_deep : (rows : Rows) (n : ℕ) (cs : Cells) → IsIdRow rows n id → RowsMeet stored_demand rows cs → members_depth (rows_given rows (fill_cells n id cs)) ≤ members_depth (rows_given rows cs)
  members_deep no_rows n cs own m = absurd own
  members_deep (row k r K rows) n no_cells own m = absurd m
  members_deep (row k may K rows) zero (cell absent cs) own m = let flat = own.2 in omega arith
  members_deep (row k may K rows) zero (cell _ cs) own m = omega arith
  members_deep (row k _ K rows) zero (cell c cs) own m = absurd own
  members_deep (row k r K rows) (suc n) (cell c cs) own m = given_deep k (row_tree r (tree K) (norm K) c) (rows_given rows (fill_cells n id cs)) (rows_given rows cs) (members_deep rows n cs own m.1)

-- ---- headers

objects_same : (ms ns : Members) → object ms ≡ object ns → ms ≡ ns
objects_same ms ns e = cc

module _ (rows : Rows) (order : in_order (keys rows) ≡ true) where
  abbrev H : Kind
  H = table rows ignored

  -- of a table that keeps no other members, the members are those of its rows
  alone : (cs : Cells) (other : Members) → other ≡ no_members → rows_tree rows cs other ≡ rows_given rows cs
  alone cs other e = ap (rows_tree rows cs) e ∙ rows_tree_in_order rows cs order

  given_alike : (cs : Cells) (other : Members) → other ≡ no_members → object (rows_tree rows cs other) ≡ object (rows_tree rows (rows_norm rows cs) other) → rows_given rows cs ≡ rows_given rows (rows_norm rows cs)
  given_alike cs other none e = sym (alone cs other none) ∙ objects_same (rows_tree rows cs other) (rows_tree rows (rows_norm rows cs) other) e ∙ alone (rows_norm rows cs) other none

  -- a header that is written as its normal form is so without an optional cell
  pub header_cleared : (n : ℕ) → IsOptionalRow rows n → (h : Cell) → IsWrittenAsNormal H h → IsWrittenAsNormal H (clear_place n h)
  header_cleared n own (fields cs other) (s, p, e) =
      let less = clear_cells n cs in (
        (cleared_meet stored_demand rows n cs own s.0, s.1),
        (cleared_meet plain_demand rows n cs own p.0, p.1),
        ap object (alone less other s.1 ∙ cleared_same rows n cs order own s.0 (given_alike cs other s.1 e) ∙ sym (alone (rows_norm rows less) other s.1)),
      )
  header_cleared n own _ (s, p, e) = absurd s

  module _ (n : ℕ) (id : Cell) (own : IsIdRow rows n id) where
    header_meets : (G : Demand) → ((K : Kind) → IsNormal K id → Meets G K id) → (h : Cell) → Meets G H h → Meets G H (fill_place n id h)
    header_meets G point (fields cs other) m = (cells_meet id G point rows n cs own m.0, m.1)
    header_meets G point _ m = absurd m

    header_twice : (h : Cell) → fill_place n id (fill_place n id h) ≡ fill_place n id h
    header_twice (fields cs other) = ap (λ xs. fields xs other) (cells_twice id n cs)
    header_twice _ = refl

    header_norm : (h : Cell) → IsStored H h → norm H (fill_place n id h) ≡ fill_place n id (norm H h)
    header_norm (fields cs other) s = ap (λ xs. fields xs other) (cells_norm id rows n cs own s.0)
    header_norm _ s = absurd s

    header_tree : (h : Cell) → IsStored H h → tree H h ≡ tree H (norm H h) → tree H (fill_place n id h) ≡ tree H (fill_place n id (norm H h))
    header_tree (fields cs other) s e =
        let rest = rows_norm rows cs in
        ap object (alone (fill_cells n id cs) other s.1 ∙ members_same id rows n cs order own s.0 (given_alike cs other s.1 e) ∙ sym (alone (fill_cells n id rest) other s.1))
    header_tree _ s e = absurd s

    header_deep : (h : Cell) → IsStored H h → depth (tree H (fill_place n id h)) ≤ depth (tree H h)
    header_deep (fields cs other) s =
        let less = members_deep id rows n cs own s.0 in
        let old = ap members_depth (alone cs other s.1) in
        let new = ap members_depth (alone (fill_cells n id cs) other s.1) in
        omega arith
    header_deep _ s = absurd s

    -- what fills that cell alone has the laws
    pub place_fills : (fill : Cell → Cell → Cell) → ((h : Cell) → fill id h ≡ fill_place n id h) → FillLaws H fill id
    place_fills fill same = record {
      fill_stored = λ h s. subst (IsStored H) (sym (same h)) (header_meets stored_demand (λ K p. p.0) h s);
      fill_plain = λ h p. subst (IsPlain H) (sym (same h)) (header_meets plain_demand (λ K p. p.1) h p);
      fill_readable = λ h r. subst (IsReadable H) (sym (same h)) (header_meets readable_demand (λ K p. p.2) h r);
      fill_twice = λ h. ap (fill id) (same h) ∙ same (fill_place n id h) ∙ header_twice h ∙ sym (same h);
      fill_norm = λ h s p. ap (norm H) (same h) ∙ header_norm h s ∙ sym (same (norm H h));
      fill_tree = λ h s p e. ap (tree H) (same h) ∙ header_tree h s e ∙ sym (ap (tree H) (same (norm H h)));
      fill_depth = λ h s. let less = header_deep h s in let e = ap (λ x. depth (tree H x)) (same h) in omega arith;
    }
