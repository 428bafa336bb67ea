-- The normal form of a normal form is itself, and is stored, plain and readable.
use Rattle.std.proofs.Common.{◌≡◌, ℕ, zero, suc, List, ◌∷◌, Bool, true, false, cond, refl, sym, ap, ap₂, ◌∙◌, subst}
use Rattle.sentry_tables.specs.Cell.{Cell, absent, present, sequence, mapping, fields, choice, Cells, no_cells, cell, Entries, no_entries, entry}
use Rattle.sentry_tables.specs.Kind.{Scalar, Rule, must, may, may_null, may_strict, default, always, draw, at_once, Kind, scalar, list, map, values, table, tagged, tagged_map, Rows, no_rows, row, Cases, no_cases, case}
use Rattle.sentry_tables.specs.Shows.{IsSequence, IsMapping, IsChoice}
use Rattle.sentry_tables.specs.Norm.{cells_of, entries_of, which, chosen, each_cell, each_entry, optional_norm, row_norm, is_null_of, norm, rows_norm, case_norm}
use Rattle.sentry_tables.specs.Meets.{AllCells, AllEntries, AreOrderedTexts, IsOptional, RowMeets, Demand, readable_demand, proper_demand, entry_keys, Meets, RowsMeet, CaseMeets, IsReadable, IsProper}
use Rattle.sentry_tables.specs.Lawful.{ScalarLaws, IsLawful, RowsLawful, CasesLawful}
use Rattle.sentry_tables.proofs.Nulls.{null_norm}

-- ---- one level

module _ (g : Cell → Cell) (Q : Cell → Type 0) (point : (c : Cell) → Q c → g (g c) ≡ g c) where
  cells_again : (cs : Cells) → AllCells Q cs → each_cell g (each_cell g cs) ≡ each_cell g cs
  cells_again no_cells q = refl
  cells_again (cell c cs) q = ap₂ cell (point c q.0) (cells_again cs q.1)

  entries_again : (es : Entries) → AllEntries Q es → each_entry g (each_entry g es) ≡ each_entry g es
  entries_again no_entries q = refl
  entries_again (entry k c es) q = ap₂ (entry k) (point c q.0) (entries_again es q.1)

  sequence_again : (c : Cell) → IsSequence (AllCells Q) c → sequence (each_cell g (each_cell g (cells_of c))) ≡ sequence (each_cell g (cells_of c))
  sequence_again (sequence cs) q = ap sequence (cells_again cs q)
  sequence_again _ q = absurd q

  mapping_again : (A : Entries → Type 0) (c : Cell) → IsMapping (λ es. A es × AllEntries Q es) c → mapping (each_entry g (each_entry g (entries_of c))) ≡ mapping (each_entry g (entries_of c))
  mapping_again A (mapping es) q = ap mapping (entries_again es q.1)
  mapping_again A _ q = absurd q

  module _ (null : Cell → Bool) (null_same : (c : Cell) → Q c → null (g c) ≡ null c) where
    optional_again : (b : Bool) (c : Cell) → null (g c) ≡ b → g (g c) ≡ g c
        → optional_norm (λ x. cond (null x) absent (present (g x))) (cond b absent (present (g c))) ≡ cond b absent (present (g c))
    optional_again true c e same = refl
    optional_again false c e same = ap (λ b. cond b absent (present (g (g c)))) e ∙ ap present same

    row_again : (r : Rule) (c : Cell) → RowMeets r Q c → row_norm r null g (row_norm r null g c) ≡ row_norm r null g c
    row_again must c q = point c q
    row_again may absent q = refl
    row_again may (present c) q = optional_again _ c (null_same c q) (point c q)
    row_again may _ q = absurd q
    row_again may_null absent q = refl
    row_again may_null (present c) q = optional_again _ c (null_same c q) (point c q)
    row_again may_null _ q = absurd q
    row_again may_strict absent q = refl
    row_again may_strict (present c) q = ap present (point c q)
    row_again may_strict _ q = absurd q
    row_again (default D) c q = point c q
    row_again (always D) c q = point c q
    row_again (draw Drawn) c q = point c q
    row_again at_once c q = point c q

choice_again : (cases : Cases) → ((n : ℕ) (c : Cell) → CaseMeets proper_demand cases n c → case_norm cases n (case_norm cases n c) ≡ case_norm cases n c) → (x : Cell) → IsChoice (CaseMeets proper_demand cases) x
    → choice (which x) (case_norm cases (which x) (case_norm cases (which x) (chosen x))) ≡ choice (which x) (case_norm cases (which x) (chosen x))
choice_again cases point (choice n c) p = ap (choice n) (point n c p)
choice_again cases point _ p = absurd p

mutual
  pub again : (K : Kind) → IsLawful K → (c : Cell) → IsProper K c → norm K (norm K c) ≡ norm K c
  again (scalar s) laws c p = laws.again c p
  again (list K) laws c p = sequence_again (norm K) (IsProper K) (again K laws) c p
  again (map K) laws c p = mapping_again (norm K) (IsProper K) (again K laws) (λ es. AreOrderedTexts (entry_keys es)) c p
  again (values K) laws c p = sequence_again (norm K) (IsProper K) (again K laws) c p
  again (table rows o) laws (fields cs other) p = ap (λ ds. fields ds other) (rows_again rows laws cs p.0)
  again (table rows o) laws _ p = absurd p
  again (tagged cases) laws c p = choice_again cases (case_again cases laws) c p
  again (tagged_map cases fallback) laws c p =
      mapping_again (λ x. choice (which x) (case_norm cases (which x) (chosen x))) (IsChoice (CaseMeets proper_demand cases)) (choice_again cases (case_again cases laws)) (λ es. AreOrderedTexts (entry_keys es)) c p

  rows_again : (rows : Rows) → RowsLawful rows → (cs : Cells) → RowsMeet proper_demand rows cs → rows_norm rows (rows_norm rows cs) ≡ rows_norm rows cs
  rows_again no_rows laws cs p = refl
  rows_again (row k r K rows) laws no_cells p = absurd p
  rows_again (row k r K rows) laws (cell c cs) p = ap₂ cell (row_again (norm K) (IsProper K) (again K laws.2) (is_null_of K) (null_norm K laws.2) r c p.0) (rows_again rows laws.3 cs p.1)

  case_again : (cases : Cases) → CasesLawful cases → (n : ℕ) (c : Cell) → CaseMeets proper_demand cases n c → case_norm cases n (case_norm cases n c) ≡ case_norm cases n c
  case_again no_cases laws n c p = absurd p
  case_again (case w rows o cases) laws zero (fields cs other) p = ap (λ ds. fields ds other) (rows_again rows laws.3 cs p.0)
  case_again (case w rows o cases) laws zero _ p = absurd p
  case_again (case w rows o cases) laws (suc n) c p = case_again cases laws.4 n c p

-- ---- what the scalars of a proper value meet, those of its normal form meet

module _ (g : Cell → Cell) (Q R : Cell → Type 0) (point : (c : Cell) → Q c → R c → R (g c)) where
  cells_kept : (cs : Cells) → AllCells Q cs → AllCells R cs → AllCells R (each_cell g cs)
  cells_kept no_cells q r = tt
  cells_kept (cell c cs) q r = (point c q.0 r.0, cells_kept cs q.1 r.1)

  entries_kept : (es : Entries) → AllEntries Q es → AllEntries R es → AllEntries R (each_entry g es)
  entries_kept no_entries q r = tt
  entries_kept (entry k c es) q r = (point c q.0 r.0, entries_kept es q.1 r.1)

  sequence_kept : (c : Cell) → IsSequence (AllCells Q) c → IsSequence (AllCells R) c → AllCells R (each_cell g (cells_of c))
  sequence_kept (sequence cs) q r = cells_kept cs q r
  sequence_kept _ q r = absurd q

  same_keys : (es : Entries) → entry_keys (each_entry g es) ≡ entry_keys es
  same_keys no_entries = refl
  same_keys (entry k c es) = ap (λ ks. k ∷ ks) (same_keys es)

  mapping_kept : (A B : List (List ℕ) → Type 0) (c : Cell) → IsMapping (λ es. A (entry_keys es) × AllEntries Q es) c → IsMapping (λ es. B (entry_keys es) × AllEntries R es) c
      → B (entry_keys (each_entry g (entries_of c))) × AllEntries R (each_entry g (entries_of c))
  mapping_kept A B (mapping es) q r = (subst B (sym (same_keys es)) r.0, entries_kept es q.1 r.1)
  mapping_kept A B _ q r = absurd q

  optional_kept : (b : Bool) (c : Cell) → R (g c) → IsOptional R (cond b absent (present (g c)))
  optional_kept true c r = tt
  optional_kept false c r = r

  row_kept : (r : Rule) (null : Cell → Bool) (c : Cell) → RowMeets r Q c → RowMeets r R c → RowMeets r R (row_norm r null g c)
  row_kept must null c q r = point c q r
  row_kept may null absent q r = tt
  row_kept may null (present c) q r = optional_kept _ c (point c q r)
  row_kept may null _ q r = absurd q
  row_kept may_null null absent q r = tt
  row_kept may_null null (present c) q r = optional_kept _ c (point c q r)
  row_kept may_null null _ q r = absurd q
  row_kept may_strict null absent q r = tt
  row_kept may_strict null (present c) q r = point c q r
  row_kept may_strict null _ q r = absurd q
  row_kept (default D) null c q r = point c q r
  row_kept (always D) null c q r = point c q r
  row_kept (draw Drawn) null c q r = point c q r
  row_kept at_once null c q r = point c q r

choice_kept : (G : Demand) (cases : Cases) → ((n : ℕ) (c : Cell) → CaseMeets proper_demand cases n c → CaseMeets G cases n c → CaseMeets G cases n (case_norm cases n c))
    → (x : Cell) → IsChoice (CaseMeets proper_demand cases) x → IsChoice (CaseMeets G cases) x → CaseMeets G cases (which x) (case_norm cases (which x) (chosen x))
choice_kept G cases point (choice n c) p q = point n c p q
choice_kept G cases point _ p q = absurd p

module _ (G : Demand) (point : (s : Scalar) → ScalarLaws s → (c : Cell) → s.stored c × s.plain c → G.scalar s c → G.scalar s (s.norm c)) where
  mutual
    pub kept_by_norm : (K : Kind) → IsLawful K → (c : Cell) → IsProper K c → Meets G K c → Meets G K (norm K c)
    kept_by_norm (scalar s) laws c p q = point s laws c p q
    kept_by_norm (list K) laws c p q = sequence_kept (norm K) (IsProper K) (Meets G K) (kept_by_norm K laws) c p q
    kept_by_norm (map K) laws c p q = mapping_kept (norm K) (IsProper K) (Meets G K) (kept_by_norm K laws) AreOrderedTexts G.keys c p q
    kept_by_norm (values K) laws c p q = sequence_kept (norm K) (IsProper K) (Meets G K) (kept_by_norm K laws) c p q
    kept_by_norm (table rows o) laws (fields cs other) p q = (rows_kept rows laws cs p.0 q.0, q.1)
    kept_by_norm (table rows o) laws _ p q = absurd p
    kept_by_norm (tagged cases) laws c p q = choice_kept G cases (case_kept cases laws) c p q
    kept_by_norm (tagged_map cases fallback) laws c p q =
        mapping_kept (λ x. choice (which x) (case_norm cases (which x) (chosen x))) (IsChoice (CaseMeets proper_demand cases)) (IsChoice (CaseMeets G cases)) (choice_kept G cases (case_kept cases laws)) AreOrderedTexts G.keys c p q

    rows_kept : (rows : Rows) → RowsLawful rows → (cs : Cells) → RowsMeet proper_demand rows cs → RowsMeet G rows cs → RowsMeet G rows (rows_norm rows cs)
    rows_kept no_rows laws no_cells p q = tt
    rows_kept no_rows laws (cell c cs) p q = absurd p
    rows_kept (row k r K rows) laws no_cells p q = absurd p
    rows_kept (row k r K rows) laws (cell c cs) p q = (row_kept (norm K) (IsProper K) (Meets G K) (kept_by_norm K laws.2) r (is_null_of K) c p.0 q.0, rows_kept rows laws.3 cs p.1 q.1)

    case_kept : (cases : Cases) → CasesLawful cases → (n : ℕ) (c : Cell) → CaseMeets proper_demand cases n c → CaseMeets G cases n c → CaseMeets G cases n (case_norm cases n c)
    case_kept no_cases laws n c p q = absurd p
    case_kept (case w rows o cases) laws zero (fields cs other) p q = (rows_kept rows laws.3 cs p.0 q.0, q.1)
    case_kept (case w rows o cases) laws zero _ p q = absurd p
    case_kept (case w rows o cases) laws (suc n) c p q = case_kept cases laws.4 n c p q

pub proper_norm : (K : Kind) → IsLawful K → (c : Cell) → IsProper K c → IsProper K (norm K c)
proper_norm K laws c p = kept_by_norm proper_demand (λ s own d q r. (own.stored_norm d q, own.plain_norm d q)) K laws c p p

pub readable_norm : (K : Kind) → IsLawful K → (c : Cell) → IsProper K c → IsReadable K c → IsReadable K (norm K c)
readable_norm K laws c p q = kept_by_norm readable_demand (λ s own d r t. own.readable_norm d r t) K laws c p q
