-- What is stored and plain is proper, and what is proper is stored and plain.
use Rattle.std.proofs.Common.{ℕ, zero, suc, List}
use Rattle.serde_json.specs.Data.{Members}
use Rattle.sentry_tables.specs.Cell.{Cell, absent, present, sequence, mapping, fields, choice, Cells, no_cells, cell, Entries, no_entries, entry}
use Rattle.sentry_tables.specs.Kind.{Scalar, Rule, must, may, may_null, may_strict, default, always, draw, at_once, Other, Kind, scalar, list, map, values, table, tagged, tagged_map, Rows, no_rows, row, Cases, no_cases, case, keys}
use Rattle.sentry_tables.specs.Shows.{IsSequence, IsMapping, AreFields, IsChoice}
use Rattle.sentry_tables.specs.Meets.{AllCells, AllEntries, IsOptional, RowMeets, Demand, entry_keys, Meets, RowsMeet, CaseMeets, plain_demand, stored_demand, proper_demand, IsPlain, IsStored, IsProper}

-- ---- one level

module _ (P Q R : Cell → Type 0) (point : (c : Cell) → P c → Q c → R c) where
  cells_both : (cs : Cells) → AllCells P cs → AllCells Q cs → AllCells R cs
  cells_both no_cells p q = tt
  cells_both (cell c cs) p q = (point c p.0 q.0, cells_both cs p.1 q.1)

  entries_both : (es : Entries) → AllEntries P es → AllEntries Q es → AllEntries R es
  entries_both no_entries p q = tt
  entries_both (entry k c es) p q = (point c p.0 q.0, entries_both es p.1 q.1)

  sequence_both : (c : Cell) → IsSequence (AllCells P) c → IsSequence (AllCells Q) c → IsSequence (AllCells R) c
  sequence_both (sequence cs) p q = cells_both cs p q
  sequence_both _ p q = absurd p

  mapping_both : (A B C : List (List ℕ) → Type 0) → ((ks : List (List ℕ)) → A ks → B ks → C ks) → (c : Cell) → IsMapping (λ es. A (entry_keys es) × AllEntries P es) c → IsMapping (λ es. B (entry_keys es) × AllEntries Q es) c
      → IsMapping (λ es. C (entry_keys es) × AllEntries R es) c
  mapping_both A B C keys (mapping es) p q = (keys (entry_keys es) p.0 q.0, entries_both es p.1 q.1)
  mapping_both A B C keys _ p q = absurd p

  optional_both : (c : Cell) → IsOptional P c → IsOptional Q c → IsOptional R c
  optional_both absent p q = tt
  optional_both (present c) p q = point c p q
  optional_both _ p q = absurd p

  row_both : (r : Rule) (c : Cell) → RowMeets r P c → RowMeets r Q c → RowMeets r R c
  row_both must c p q = point c p q
  row_both may c p q = optional_both c p q
  row_both may_null c p q = optional_both c p q
  row_both may_strict c p q = optional_both c p q
  row_both (default D) c p q = point c p q
  row_both (always D) c p q = point c p q
  row_both (draw Drawn) c p q = point c p q
  row_both at_once c p q = point c p q

fields_both : (P Q R : Cells → Members → Type 0) → ((cs : Cells) (other : Members) → P cs other → Q cs other → R cs other) → (c : Cell) → AreFields P c → AreFields Q c → AreFields R c
fields_both P Q R point (fields cs other) p q = point cs other p q
fields_both P Q R point _ p q = absurd p

choice_both : (P Q R : ℕ → Cell → Type 0) → ((n : ℕ) (c : Cell) → P n c → Q n c → R n c) → (c : Cell) → IsChoice P c → IsChoice Q c → IsChoice R c
choice_both P Q R point (choice n c) p q = point n c p q
choice_both P Q R point _ p q = absurd p

-- ---- two demands that give a third

record Gives (G H J : Demand) : Type 1 where
  pub scalar : (s : Scalar) (c : Cell) → G.scalar s c → H.scalar s c → J.scalar s c
  pub keys : (ks : List (List ℕ)) → G.keys ks → H.keys ks → J.keys ks
  pub other : (o : Other) (ks : List (List ℕ)) (ms : Members) → G.other o ks ms → H.other o ks ms → J.other o ks ms

module _ (G H J : Demand) (own : Gives G H J) where
  mutual
    both : (K : Kind) (c : Cell) → Meets G K c → Meets H K c → Meets J K c
    both (scalar s) c p q = own.scalar s c p q
    both (list K) c p q = sequence_both (Meets G K) (Meets H K) (Meets J K) (both K) c p q
    both (map K) c p q = mapping_both (Meets G K) (Meets H K) (Meets J K) (both K) G.keys H.keys J.keys own.keys c p q
    both (values K) c p q = sequence_both (Meets G K) (Meets H K) (Meets J K) (both K) c p q
    both (table rows o) c p q = fields_both _ _ _ (λ cs other p q. (rows_both rows cs p.0 q.0, own.other o (keys rows) other p.1 q.1)) c p q
    both (tagged cases) c p q = choice_both _ _ _ (case_both cases) c p q
    both (tagged_map cases fallback) c p q = mapping_both (IsChoice (CaseMeets G cases)) (IsChoice (CaseMeets H cases)) (IsChoice (CaseMeets J cases)) (choice_both _ _ _ (case_both cases)) G.keys H.keys J.keys own.keys c p q

    rows_both : (rows : Rows) (cs : Cells) → RowsMeet G rows cs → RowsMeet H rows cs → RowsMeet J rows cs
    rows_both no_rows no_cells p q = tt
    rows_both no_rows (cell c cs) p q = absurd p
    rows_both (row k r K rows) no_cells p q = absurd p
    rows_both (row k r K rows) (cell c cs) p q = (row_both (Meets G K) (Meets H K) (Meets J K) (both K) r c p.0 q.0, rows_both rows cs p.1 q.1)

    case_both : (cases : Cases) (n : ℕ) (c : Cell) → CaseMeets G cases n c → CaseMeets H cases n c → CaseMeets J cases n c
    case_both no_cases n c p q = absurd p
    case_both (case w rows o cases) zero c p q = fields_both _ _ _ (λ cs other p q. (rows_both rows cs p.0 q.0, own.other o (keys rows) other p.1 q.1)) c p q
    case_both (case w rows o cases) (suc n) c p q = case_both cases n c p q

pub proper : (K : Kind) (c : Cell) → IsStored K c → IsPlain K c → IsProper K c
proper = both stored_demand plain_demand proper_demand (record { scalar = λ s c p q. (p, q); keys = λ ks p q. p; other = λ o ks ms p q. (p, q.0, q.1) })

pub proper_stored : (K : Kind) (c : Cell) → IsProper K c → IsStored K c
proper_stored K c p = both proper_demand proper_demand stored_demand (record { scalar = λ s c p q. p.0; keys = λ ks p q. p; other = λ o ks ms p q. p.0 }) K c p p

pub proper_plain : (K : Kind) (c : Cell) → IsProper K c → IsPlain K c
proper_plain K c p = both proper_demand proper_demand plain_demand (record { scalar = λ s c p q. p.1; keys = λ ks p q. tt; other = λ o ks ms p q. (p.1, p.2) }) K c p p
