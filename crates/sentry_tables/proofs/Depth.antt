-- The tree of the normal form nests no deeper.
use Rattle.std.proofs.Common.{◌≡◌, ◌≤◌, ℕ, zero, suc, max, List, Bool, true, false, cond, Option, Some, None, Ordering, Less, Equal, Greater, nat_cmp, refl, sym, ap, ◌∙◌, subst, arith}
use Rattle.std.proofs.Math.Nat.{zero-max}
use Rattle.std.proofs.lemmas.Option.{none-some}
use Rattle.std.specs.Ordering.{match_ordering}
use Rattle.std.specs.Cmp.Lexicographic.{slice_cmp}
use Rattle.serde_json.specs.Data.{Data, string, object, Members, no_members, member, put, depth, items_depth, members_depth}
use Rattle.serde_json.specs.Find.{get_member}
use Rattle.sentry_tables.specs.Cell.{Cell, absent, present, sequence, mapping, fields, choice, Cells, no_cells, cell, Entries, no_entries, entry, same_cell}
use Rattle.sentry_tables.specs.Kind.{Rule, must, may, may_null, may_strict, default, always, draw, at_once, Kind, scalar, list, map, values, table, tagged, tagged_map, Rows, no_rows, row, Cases, no_cases, case, keys, tag}
use Rattle.sentry_tables.specs.Shows.{IsSequence, IsMapping, IsChoice}
use Rattle.sentry_tables.specs.Norm.{cells_of, entries_of, which, chosen, each_cell, each_entry, row_norm, is_null_of, norm, rows_norm, case_norm}
use Rattle.sentry_tables.specs.Written.{items_tree, members_tree, optional_tree, row_tree, put_given, tree, rows_tree, case_tree}
use Rattle.sentry_tables.specs.Meets.{AllCells, AllEntries, AreOrderedTexts, entry_keys, RowMeets, proper_demand, RowsMeet, CaseMeets, IsProper}
use Rattle.sentry_tables.specs.Lawful.{IsLawful, RowsLawful, CasesLawful}
use Rattle.sentry_tables.proofs.Members.{is_among_here, get-may_stand}
use Rattle.sentry_tables.proofs.Back.{Lacks, free_later, free_tagged}
use Rattle.sentry_tables.proofs.Normal.{again}

max_mono : (a b c d : ℕ) → a ≤ b → c ≤ d → max a c ≤ max b d
max_mono a b c d p q = grind arith

max_swap : (a b c : ℕ) → max a (max b c) ≡ max b (max a c)
max_swap a b c = grind arith

max_first : (a b c : ℕ) → max a (max b c) ≡ max (max b a) c
max_first a b c = grind arith

-- ---- members

put_depth_at : (o : Ordering) (k l : List ℕ) (d e : Data) (ms : Members) → match_ordering o (get_member k ms) (Some e) (get_member k ms) ≡ None → (get_member k ms ≡ None → members_depth (put k d ms) ≡ max (depth d) (members_depth ms))
    → members_depth (match_ordering o (member k d (member l e ms)) (member l d ms) (member l e (put k d ms))) ≡ max (depth d) (max (depth e) (members_depth ms))
put_depth_at Less k l d e ms h more = refl
put_depth_at Equal k l d e ms h more = absurd (none-some e (sym h))
put_depth_at Greater k l d e ms h more = ap (max (depth e)) (more h) ∙ max_swap (depth e) (depth d) (members_depth ms)

-- a member that is new among others
put_depth : (k : List ℕ) (d : Data) (ms : Members) → get_member k ms ≡ None → members_depth (put k d ms) ≡ max (depth d) (members_depth ms)
put_depth k d no_members h = refl
put_depth k d (member l e ms) h = put_depth_at (slice_cmp nat_cmp k l) k l d e ms h (put_depth k d ms)

abbrev given_depth : Option Data → ℕ
given_depth None = 0
given_depth (Some d) = depth d

put_given_depth : (k : List ℕ) (o : Option Data) (ms : Members) → get_member k ms ≡ None → members_depth (put_given k o ms) ≡ max (given_depth o) (members_depth ms)
put_given_depth k None ms h = sym (zero-max (members_depth ms))
put_given_depth k (Some d) ms h = put_depth k d ms h

-- how deep the rows nest
abbrev rows_depth : Rows → Cells → ℕ
rows_depth no_rows cs = 0
rows_depth (row k r K rows) no_cells = 0
rows_depth (row k r K rows) (cell c cs) = max (given_depth (row_tree r (tree K) (norm K) c)) (rows_depth rows cs)

rows_tree_depth : (rows : Rows) → RowsLawful rows → (cs : Cells) (ms : Members) → Lacks (keys rows) ms → members_depth (rows_tree rows cs ms) ≡ max (rows_depth rows cs) (members_depth ms)
rows_tree_depth no_rows laws cs ms free = sym (zero-max (members_depth ms))
rows_tree_depth (row k r K rows) laws no_cells ms free = sym (zero-max (members_depth ms))
rows_tree_depth (row k r K rows) laws (cell c cs) ms free =
    let o = row_tree r (tree K) (norm K) c in
    rows_tree_depth rows laws.3 cs (put_given k o ms) (free_later k o rows cs ms laws.0 free)
    ∙ ap (max (rows_depth rows cs)) (put_given_depth k o ms (free k (is_among_here k (keys rows))))
    ∙ max_first (rows_depth rows cs) (given_depth o) (members_depth ms)

-- ---- one level

module _ (f : Cell → Data) (g : Cell → Cell) (Q : Cell → Type 0) (point : (c : Cell) → Q c → depth (f (g c)) ≤ depth (f c)) where
  items_shallow : (cs : Cells) → AllCells Q cs → items_depth (items_tree f (each_cell g cs)) ≤ items_depth (items_tree f cs)
  items_shallow no_cells q = omega arith
  items_shallow (cell c cs) q = max_mono _ _ _ _ (point c q.0) (items_shallow cs q.1)

  sequence_shallow : (c : Cell) → IsSequence (AllCells Q) c → items_depth (items_tree f (each_cell g (cells_of c))) ≤ items_depth (items_tree f (cells_of c))
  sequence_shallow (sequence cs) q = items_shallow cs q
  sequence_shallow _ q = absurd q

  members_shallow : (es : Entries) → AllEntries Q es → members_depth (members_tree f (each_entry g es)) ≤ members_depth (members_tree f es)
  members_shallow no_entries q = omega arith
  members_shallow (entry k c es) q = max_mono _ _ _ _ (point c q.0) (members_shallow es q.1)

  mapping_shallow : (A : List (List ℕ) → Type 0) (c : Cell) → IsMapping (λ es. A (entry_keys es) × AllEntries Q es) c → members_depth (members_tree f (each_entry g (entries_of c))) ≤ members_depth (members_tree f (entries_of c))
  mapping_shallow A (mapping es) q = members_shallow es q.1
  mapping_shallow A _ q = absurd q

  -- either both write the row, or it is left out, or null is written
  maybe_shallow : (without : Option Data) (b : Bool) (c : Cell) → given_depth without ≡ 0 → depth (f (g c)) ≤ depth (f c) → given_depth (optional_tree without f (cond b absent (present (g c)))) ≤ depth (f c)
  maybe_shallow without true c e h = omega arith
  maybe_shallow without false c e h = h

  default_shallow : (b : Bool) (c : Cell) → depth (f (g c)) ≤ depth (f c) → given_depth (cond b None (Some (f (g c)))) ≤ given_depth (cond b None (Some (f c)))
  default_shallow true c h = omega arith
  default_shallow false c h = h

  row_shallow : (r : Rule) (nil : Cell → Bool) (c : Cell) → ((c : Cell) → Q c → g (g c) ≡ g c) → RowMeets r Q c → given_depth (row_tree r f g (row_norm r nil g c)) ≤ given_depth (row_tree r f g c)
  row_shallow must nil c twice q = point c q
  row_shallow may nil absent twice q = omega arith
  row_shallow may nil (present c) twice q = maybe_shallow None (nil c) c refl (point c q)
  row_shallow may nil _ twice q = absurd q
  row_shallow may_null nil absent twice q = omega arith
  row_shallow may_null nil (present c) twice q = maybe_shallow (Some Data.null) (nil c) c refl (point c q)
  row_shallow may_null nil _ twice q = absurd q
  row_shallow may_strict nil absent twice q = omega arith
  row_shallow may_strict nil (present c) twice q = point c q
  row_shallow may_strict nil _ twice q = absurd q
  row_shallow (default D) nil c twice q =
      subst (λ x. given_depth (cond (same_cell x D) None (Some (f (g c)))) ≤ given_depth (cond (same_cell (g c) D) None (Some (f c)))) (sym (twice c q)) (default_shallow (same_cell (g c) D) c (point c q))
  row_shallow (always D) nil c twice q = point c q
  row_shallow (draw Drawn) nil c twice q = point c q
  row_shallow at_once nil c twice q = point c q

-- ---- kinds

rows_shallow : (rows : Rows) → RowsLawful rows → (cs : Cells) (ms : Members) → Lacks (keys rows) ms → rows_depth rows (rows_norm rows cs) ≤ rows_depth rows cs → members_depth (rows_tree rows (rows_norm rows cs) ms) ≤ members_depth (rows_tree rows cs ms)
rows_shallow rows laws cs ms free h =
    subst (λ n. n ≤ members_depth (rows_tree rows cs ms)) (sym (rows_tree_depth rows laws (rows_norm rows cs) ms free))
    (subst (λ n. max (rows_depth rows (rows_norm rows cs)) (members_depth ms) ≤ n) (sym (rows_tree_depth rows laws cs ms free)) (max_mono _ _ _ _ h (omega arith)))

choice_shallow : (cases : Cases) → ((n : ℕ) (c : Cell) → CaseMeets proper_demand cases n c → members_depth (case_tree cases n (case_norm cases n c)) ≤ members_depth (case_tree cases n c))
    → (x : Cell) → IsChoice (CaseMeets proper_demand cases) x → members_depth (case_tree cases (which x) (case_norm cases (which x) (chosen x))) ≤ members_depth (case_tree cases (which x) (chosen x))
choice_shallow cases point (choice n c) p = point n c p
choice_shallow cases point _ p = absurd p

more : (a b : ℕ) → a ≤ b → suc a ≤ suc b
more a b h = omega arith

mutual
  pub depth_norm : (K : Kind) → IsLawful K → (c : Cell) → IsProper K c → depth (tree K (norm K c)) ≤ depth (tree K c)
  depth_norm (scalar s) laws c p = laws.depth_norm c p
  depth_norm (list K) laws c p = more _ _ (sequence_shallow (tree K) (norm K) (IsProper K) (depth_norm K laws) c p)
  depth_norm (map K) laws c p = more _ _ (mapping_shallow (tree K) (norm K) (IsProper K) (depth_norm K laws) AreOrderedTexts c p)
  depth_norm (values K) laws c p = more _ _ (max_mono _ _ 0 0 (more _ _ (sequence_shallow (tree K) (norm K) (IsProper K) (depth_norm K laws) c p)) (omega arith))
  depth_norm (table rows o) laws (fields cs other) p = more _ _ (rows_shallow rows laws cs other (λ k h. get-may_stand o (keys rows) k other h p.1) (rows_depth_norm rows laws cs p.0))
  depth_norm (table rows o) laws _ p = absurd p
  depth_norm (tagged cases) laws c p = more _ _ (choice_shallow cases (case_shallow cases laws) c p)
  depth_norm (tagged_map cases fallback) laws c p =
      more _ _
      (mapping_shallow (λ x. object (case_tree cases (which x) (chosen x))) (λ x. choice (which x) (case_norm cases (which x) (chosen x))) (IsChoice (CaseMeets proper_demand cases))
      (λ x q. more _ _ (choice_shallow cases (case_shallow cases laws) x q)) AreOrderedTexts c p)

  rows_depth_norm : (rows : Rows) → RowsLawful rows → (cs : Cells) → RowsMeet proper_demand rows cs → rows_depth rows (rows_norm rows cs) ≤ rows_depth rows cs
  rows_depth_norm no_rows laws cs p = omega arith
  rows_depth_norm (row k r K rows) laws no_cells p = absurd p
  rows_depth_norm (row k r K rows) laws (cell c cs) p =
      max_mono _ _ _ _ (row_shallow (tree K) (norm K) (IsProper K) (depth_norm K laws.2) r (is_null_of K) c (again K laws.2) p.0) (rows_depth_norm rows laws.3 cs p.1)

  case_shallow : (cases : Cases) → CasesLawful cases → (n : ℕ) (c : Cell) → CaseMeets proper_demand cases n c → members_depth (case_tree cases n (case_norm cases n c)) ≤ members_depth (case_tree cases n c)
  case_shallow no_cases laws n c p = absurd p
  case_shallow (case w rows o cases) laws zero (fields cs other) p = rows_shallow rows laws.3 cs (put tag (string w) other) (free_tagged o (keys rows) other (string w) laws.1 p.1) (rows_depth_norm rows laws.3 cs p.0)
  case_shallow (case w rows o cases) laws zero _ p = absurd p
  case_shallow (case w rows o cases) laws (suc n) c p = case_shallow cases laws.4 n c p
