-- Stored, plain and readable values: the shape fits the kind, and the parts meet a demand.
use Rattle.std.specs.Prelude.{◌≡◌, ℕ, zero, suc, List, [], ◌∷◌, ◌++◌, false, IsUtf8, ⊤}
use Rattle.std.specs.declared.cmp.Ordering.TheVariants.{Less}
use Rattle.std.specs.Ordering.{nat_cmp}
use Rattle.std.specs.Cmp.Lexicographic.{slice_cmp}
use Rattle.serde_json.specs.Written.{members_have_float}
use Rattle.sentry_json.specs.Sound.{IsRegular, HasTexts}
use Rattle.sentry_json.specs.Keys.{is_among}
use Rattle.serde_json.specs.Data.{Members, no_members, member, object}
use Rattle.sentry_tables.specs.Cell.{Cell, absent, present, Cells, no_cells, cell, Entries, no_entries, entry}
use Rattle.sentry_tables.specs.Kind.{Scalar, Rule, must, may, may_null, may_strict, default, always, draw, at_once, Other, ignored, kept, Kind, scalar, list, map, values, table, tagged, tagged_map, Rows, no_rows, row, Cases, no_cases, case, keys}
use Rattle.sentry_tables.specs.Shows.{IsSequence, IsMapping, AreFields, IsChoice}

abbrev pub AllCells : (Cell → Type 0) → Cells → Type 0
AllCells P no_cells = ⊤
AllCells P (cell c cs) = P c × AllCells P cs

abbrev pub AllEntries : (Cell → Type 0) → Entries → Type 0
AllEntries P no_entries = ⊤
AllEntries P (entry k c es) = P c × AllEntries P es

-- no member has one of these keys
abbrev pub IsClear : List (List ℕ) → Members → Type 0
IsClear ks no_members = ⊤
IsClear ks (member k d ms) = (is_among k ks ≡ false) × IsClear ks ms

-- no member that is kept beside rows of these keys has the key of a row, or one that is reserved
abbrev pub StandsApart : Other → List (List ℕ) → Members → Type 0
StandsApart ignored ks other = ⊤
StandsApart (kept reserved) ks other = IsClear (reserved ++ ks) other

-- members are kept only where the table keeps them; keys are in order, numbers in range, texts
-- UTF-8
abbrev pub IsKept : Other → Members → Type 0
IsKept ignored other = other ≡ no_members
IsKept (kept reserved) other = IsRegular (object other) × HasTexts (object other)

abbrev pub IsOptional : (Cell → Type 0) → Cell → Type 0
IsOptional P absent = ⊤
IsOptional P (present c) = P c
IsOptional P _ = ⊥

abbrev pub RowMeets : Rule → (Cell → Type 0) → Cell → Type 0
RowMeets must P c = P c
RowMeets may P c = IsOptional P c
RowMeets may_null P c = IsOptional P c
RowMeets may_strict P c = IsOptional P c
RowMeets (default D) P c = P c
RowMeets (always D) P c = P c
RowMeets (draw Drawn) P c = P c
RowMeets at_once P c = P c

abbrev pub entry_keys : Entries → List (List ℕ)
entry_keys no_entries = []
entry_keys (entry k c es) = k ∷ entry_keys es

-- what is asked of the scalars in a value, of the keys of a map, and of the members beside rows of
-- these keys
pub record Demand : Type 1 where
  pub scalar : Scalar → Cell → Type 0
  pub keys : List (List ℕ) → Type 0
  pub other : Other → List (List ℕ) → Members → Type 0

abbrev mutual
  pub Meets : Demand → Kind → Cell → Type 0
  Meets G (scalar s) c = G.scalar s c
  Meets G (list K) c = IsSequence (AllCells (Meets G K)) c
  Meets G (map K) c = IsMapping (λ es. G.keys (entry_keys es) × AllEntries (Meets G K) es) c
  Meets G (values K) c = IsSequence (AllCells (Meets G K)) c
  Meets G (table rows o) c = AreFields (λ cs other. RowsMeet G rows cs × G.other o (keys rows) other) c
  Meets G (tagged cases) c = IsChoice (CaseMeets G cases) c
  Meets G (tagged_map cases fallback) c = IsMapping (λ es. G.keys (entry_keys es) × AllEntries (IsChoice (CaseMeets G cases)) es) c

  pub RowsMeet : Demand → Rows → Cells → Type 0
  RowsMeet G no_rows no_cells = ⊤
  RowsMeet G no_rows (cell c cs) = ⊥
  RowsMeet G (row k r K rows) no_cells = ⊥
  RowsMeet G (row k r K rows) (cell c cs) = RowMeets r (Meets G K) c × RowsMeet G rows cs

  pub CaseMeets : Demand → Cases → ℕ → Cell → Type 0
  CaseMeets G no_cases n c = ⊥
  CaseMeets G (case w rows o cases) zero c = AreFields (λ cs other. RowsMeet G rows cs × G.other o (keys rows) other) c
  CaseMeets G (case w rows o cases) (suc n) c = CaseMeets G cases n c

-- The value's trees hold no floats, and no member beside its rows clashes with them.
abbrev pub plain_demand : Demand
plain_demand = record { scalar = λ s. s.plain; keys = λ ks. ⊤; other = λ o ks ms. StandsApart o ks ms × (members_have_float ms ≡ false) }

-- Its printed texts are read back, where that isn't so of each value.
abbrev pub readable_demand : Demand
readable_demand = record { scalar = λ s. s.readable; keys = λ ks. ⊤; other = λ o ks ms. ⊤ }

abbrev pub AllLater : List ℕ → List (List ℕ) → Type 0
AllLater k [] = ⊤
AllLater k (l ∷ ls) = (slice_cmp nat_cmp k l ≡ Less) × AllLater k ls

-- texts, in order
abbrev pub AreOrderedTexts : List (List ℕ) → Type 0
AreOrderedTexts [] = ⊤
AreOrderedTexts (k ∷ ks) = IsUtf8 k × AllLater k ks × AreOrderedTexts ks

-- What Rust's types hold of each of their values: ranges, UTF-8, the order of maps.
abbrev pub stored_demand : Demand
stored_demand = record { scalar = λ s. s.stored; keys = AreOrderedTexts; other = λ o ks ms. IsKept o ms }

-- Stored and plain at once.
abbrev pub proper_demand : Demand
proper_demand = record {
  scalar = λ s c. s.stored c × s.plain c;
  keys = AreOrderedTexts;
  other = λ o ks ms. IsKept o ms × StandsApart o ks ms × (members_have_float ms ≡ false);
}

abbrev pub IsPlain : Kind → Cell → Type 0
IsPlain = Meets plain_demand

abbrev pub IsReadable : Kind → Cell → Type 0
IsReadable = Meets readable_demand

abbrev pub IsStored : Kind → Cell → Type 0
IsStored = Meets stored_demand

abbrev pub IsProper : Kind → Cell → Type 0
IsProper = Meets proper_demand
