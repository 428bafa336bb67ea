-- A tree that shows a value at one moment shows one at any.
use Rattle.std.proofs.Common.{◌≡◌, ℕ, zero, suc, List, true, Option, Some, None, refl}
use Rattle.serde_json.specs.Data.{Data, Items, no_items, item, Members, no_members, member}
use Rattle.serde_json.specs.Find.{get, as_array, as_object}
use Rattle.sentry_tables.specs.Cell.{Cell, absent, present, sequence, mapping, fields, choice, Cells, no_cells, cell, Entries, no_entries, entry}
use Rattle.sentry_tables.specs.Kind.{Rule, must, may, may_null, may_strict, default, always, draw, at_once, Kind, scalar, list, map, values, table, tagged, tagged_map, Rows, no_rows, row, Cases, no_cases, case, keys, words, others}
use Rattle.sentry_tables.specs.Shows.{is_object, members_in, ObjectShows, IsPresent, IsSequence, IsMapping, AreFields, IsChoice, ItemsShow, MembersShow, ArrayShows, values_in, unless_null, ShowsOption, RowShows, OrElse, word_at, tag_word, Shows, RowsShow, CaseShows}

-- ---- one level

module _ (P Q : Data → Cell → Type 0) (point : (d : Data) (c : Cell) → P d c → (x : Cell) × Q d x) where
  items_later : (ds : Items) (cs : Cells) → ItemsShow P ds cs → (xs : Cells) × ItemsShow Q ds xs
  items_later no_items cs h = (no_cells, tt)
  items_later (item d ds) no_cells h = absurd h
  items_later (item d ds) (cell c cs) h = let first = point d c h.0 in let rest = items_later ds cs h.1 in (cell first.0 rest.0, (first.1, rest.1))

  sequence_later : (ds : Items) (c : Cell) → IsSequence (ItemsShow P ds) c → (x : Cell) × IsSequence (ItemsShow Q ds) x
  sequence_later ds (sequence cs) h = let all = items_later ds cs h in (sequence all.0, all.1)
  sequence_later ds _ h = absurd h

  array_later : (o : Option Items) (c : Cell) → ArrayShows P o c → (x : Cell) × ArrayShows Q o x
  array_later None c h = absurd h
  array_later (Some ds) c h = sequence_later ds c h

  present_later : (d : Data) (c : Cell) → IsPresent (P d) c → (x : Cell) × IsPresent (Q d) x
  present_later d (present c) h = let one = point d c h in (present one.0, one.1)
  present_later d _ h = absurd h

  option_later : (o : Option Data) (c : Cell) → ShowsOption P o c → (x : Cell) × ShowsOption Q o x
  option_later None c h = (absent, refl)
  option_later (Some d) c h = present_later d c h

  else_later : (E F : Cell → Type 0) → ((c : Cell) → E c → (x : Cell) × F x) → (o : Option Data) (c : Cell) → OrElse E P o c → (x : Cell) × OrElse F Q o x
  else_later E F other None c h = other c h
  else_later E F other (Some d) c h = point d c h

  row_later : (r : Rule) (now later : Cell) (o : Option Data) (c : Cell) → RowShows r P now o c → (x : Cell) × RowShows r Q later o x
  row_later must now later o c h = else_later (λ x. ⊥) (λ x. ⊥) (λ x e. absurd e) o c h
  row_later may now later o c h = option_later (unless_null o) c h
  row_later may_null now later o c h = option_later (unless_null o) c h
  row_later may_strict now later o c h = option_later o c h
  row_later (default D) now later o c h = else_later (λ x. x ≡ D) (λ x. x ≡ D) (λ x e. (x, e)) o c h
  row_later (always D) now later o c h = else_later (λ x. x ≡ D) (λ x. x ≡ D) (λ x e. (x, e)) o c h
  row_later (draw Drawn) now later o c h = else_later Drawn Drawn (λ x e. (x, e)) o c h
  row_later at_once now later o c h = else_later (λ x. x ≡ now) (λ x. x ≡ later) (λ x e. (later, refl)) o c h

module _ (P Q : List ℕ → Data → Cell → Type 0) (point : (k : List ℕ) (d : Data) (c : Cell) → P k d c → (x : Cell) × Q k d x) where
  members_later : (ms : Members) (es : Entries) → MembersShow P ms es → (xs : Entries) × MembersShow Q ms xs
  members_later no_members es h = (no_entries, tt)
  members_later (member k d ms) no_entries h = absurd h
  members_later (member k d ms) (entry l c es) h = let first = point k d c h.1 in let rest = members_later ms es h.2 in (entry l first.0 rest.0, (h.0, first.1, rest.1))

  mapping_later : (ms : Members) (c : Cell) → IsMapping (MembersShow P ms) c → (x : Cell) × IsMapping (MembersShow Q ms) x
  mapping_later ms (mapping es) h = let all = members_later ms es h in (mapping all.0, all.1)
  mapping_later ms _ h = absurd h

  object_later : (o : Option Members) (c : Cell) → ObjectShows P o c → (x : Cell) × ObjectShows Q o x
  object_later None c h = absurd h
  object_later (Some ms) c h = mapping_later ms c h

fields_later : (P Q : Cells → Type 0) (R : Members → Type 0) → ((cs : Cells) → P cs → (xs : Cells) × Q xs) → (c : Cell) → AreFields (λ cs other. P cs × R other) c → (x : Cell) × AreFields (λ cs other. Q cs × R other) x
fields_later P Q R f (fields cs other) h = let all = f cs h.0 in (fields all.0 other, (all.1, h.1))
fields_later P Q R f _ h = absurd h

choice_later : (P Q : ℕ → Cell → Type 0) → ((n : ℕ) (c : Cell) → P n c → (x : Cell) × Q n x) → (c : Cell) → IsChoice P c → (x : Cell) × IsChoice Q x
choice_later P Q f (choice n c) h = let one = f n c h in (choice n one.0, one.1)
choice_later P Q f _ h = absurd h

beside : (A : Type 0) (P Q : Cell → Type 0) → ((c : Cell) → P c → (x : Cell) × Q x) → (c : Cell) → A × P c → (x : Cell) × (A × Q x)
beside A P Q f c h = let one = f c h.1 in (one.0, (h.0, one.1))

-- ---- kinds

module _ (now later : Cell) where
  mutual
    pub timeless : (K : Kind) (d : Data) (c : Cell) → Shows K now d c → (x : Cell) × Shows K later d x
    timeless (scalar s) d c h = (c, h)
    timeless (list K) d c h = array_later (Shows K now) (Shows K later) (timeless K) (as_array d) c h
    timeless (map K) d c h = object_later (λ k. Shows K now) (λ k. Shows K later) (λ k. timeless K) (as_object d) c h
    timeless (values K) d c h = array_later (Shows K now) (Shows K later) (timeless K) (values_in d) c h
    timeless (table rows o) d c h = beside (is_object d ≡ true) _ _ (fields_later (RowsShow rows now d) (RowsShow rows later d) (λ other. other ≡ others o (keys rows) (members_in d)) (rows_later rows d)) c h
    timeless (tagged cases) d c h = beside (is_object d ≡ true) _ _ (choice_later (CaseShows cases now (tag_word None d) d) (CaseShows cases later (tag_word None d) d) (case_later cases (tag_word None d) d)) c h
    timeless (tagged_map cases fallback) d c h =
        object_later (λ k e x. (is_object e ≡ true) × IsChoice (CaseShows cases now (tag_word (Some (word_at k (words cases) fallback)) e) e) x)
        (λ k e x. (is_object e ≡ true) × IsChoice (CaseShows cases later (tag_word (Some (word_at k (words cases) fallback)) e) e) x)
        (λ k e x one. beside (is_object e ≡ true) _ _ (choice_later (CaseShows cases now (tag_word (Some (word_at k (words cases) fallback)) e) e) (CaseShows cases later (tag_word (Some (word_at k (words cases) fallback)) e) e) (case_later cases (tag_word (Some (word_at k (words cases) fallback)) e) e)) x one)
        (as_object d) c h

    rows_later : (rows : Rows) (d : Data) (cs : Cells) → RowsShow rows now d cs → (xs : Cells) × RowsShow rows later d xs
    rows_later no_rows d no_cells h = (no_cells, tt)
    rows_later no_rows d (cell c cs) h = absurd h
    rows_later (row k r K rows) d no_cells h = absurd h
    rows_later (row k r K rows) d (cell c cs) h =
        let first = row_later (Shows K now) (Shows K later) (timeless K) r now later (get k d) c h.0 in
        let rest = rows_later rows d cs h.1 in
        (cell first.0 rest.0, (first.1, rest.1))

    case_later : (cases : Cases) (word : Option (List ℕ)) (d : Data) (n : ℕ) (c : Cell) → CaseShows cases now word d n c → (x : Cell) × CaseShows cases later word d n x
    case_later no_cases word d n c h = absurd h
    case_later (case w rows o cases) word d zero c h = beside (word ≡ Some w) _ _ (fields_later (RowsShow rows now d) (RowsShow rows later d) (λ other. other ≡ others o (keys rows) (members_in d)) (rows_later rows d)) c h
    case_later (case w rows o cases) word d (suc n) c h = case_later cases word d n c h
