-- At each moment a tree in which nothing is drawn shows at most one value.
use Rattle.std.proofs.Common.{◌≡◌, ℕ, zero, suc, List, ◌∷◌, true, Option, Some, None, refl, sym, ap, ap₂, ◌∙◌, subst}
use Rattle.std.proofs.lemmas.Bool.{false≢true}
use Rattle.serde_json.specs.Data.{Data, Items, no_items, item, Members, no_members, member}
use Rattle.serde_json.specs.Find.{get, as_array, as_object}
use Rattle.sentry_json.specs.Keys.{is_among}
use Rattle.sentry_tables.specs.Cell.{Cell, present, sequence, mapping, fields, choice, Cells, no_cells, cell, Entries, no_entries, entry}
use Rattle.sentry_tables.specs.Kind.{Rule, must, may, may_null, may_strict, default, always, draw, at_once, Kind, scalar, list, map, values, table, tagged, tagged_map, Rows, no_rows, row, Cases, no_cases, case, keys, words, others}
use Rattle.sentry_tables.specs.Shows.{is_object, members_in, ObjectShows, IsPresent, IsSequence, IsMapping, AreFields, IsChoice, ItemsShow, MembersShow, ArrayShows, values_in, unless_null, ShowsOption, RowShows, OrElse, word_at, tag_word, Shows, RowsShow, CaseShows}
use Rattle.sentry_tables.specs.Lawful.{IsLawful, RowsLawful, CasesLawful}
use Rattle.sentry_tables.specs.Drawn.{IfGiven, IsGiven, EachItem, EachMember, InArray, InObject, RowHolds, NothingDrawn, RowsDrawNothing, CasesDrawNothing}
use Rattle.sentry_tables.proofs.Members.{is_among_here, is_among_later}

-- ---- one level

module _ (Q : Data → Type 0) (P : Data → Cell → Type 0) (point : (d : Data) (c x : Cell) → Q d → P d c → P d x → c ≡ x) where
  items_single : (ds : Items) (cs xs : Cells) → EachItem Q ds → ItemsShow P ds cs → ItemsShow P ds xs → cs ≡ xs
  items_single no_items no_cells no_cells q h k = refl
  items_single no_items no_cells (cell x xs) q h k = absurd k
  items_single no_items (cell c cs) xs q h k = absurd h
  items_single (item d ds) no_cells xs q h k = absurd h
  items_single (item d ds) (cell c cs) no_cells q h k = absurd k
  items_single (item d ds) (cell c cs) (cell x xs) q h k = ap₂ cell (point d c x q.0 h.0 k.0) (items_single ds cs xs q.1 h.1 k.1)

  sequence_single : (ds : Items) (c x : Cell) → EachItem Q ds → IsSequence (ItemsShow P ds) c → IsSequence (ItemsShow P ds) x → c ≡ x
  sequence_single ds (sequence cs) (sequence xs) q h k = ap sequence (items_single ds cs xs q h k)
  sequence_single ds (sequence cs) _ q h k = absurd k
  sequence_single ds _ x q h k = absurd h

  array_single : (o : Option Items) (c x : Cell) → InArray Q o → ArrayShows P o c → ArrayShows P o x → c ≡ x
  array_single None c x q h k = absurd h
  array_single (Some ds) c x q h k = sequence_single ds c x q h k

  present_single : (d : Data) (c x : Cell) → Q d → IsPresent (P d) c → IsPresent (P d) x → c ≡ x
  present_single d (present c) (present x) q h k = ap present (point d c x q h k)
  present_single d (present c) _ q h k = absurd k
  present_single d _ x q h k = absurd h

  option_single : (o : Option Data) (c x : Cell) → IfGiven Q o → ShowsOption P o c → ShowsOption P o x → c ≡ x
  option_single None c x q h k = h ∙ sym k
  option_single (Some d) c x q h k = present_single d c x q h k

  else_single : (Else : Cell → Type 0) → ((c x : Cell) → Else c → Else x → c ≡ x) → (o : Option Data) (c x : Cell) → IfGiven Q o → OrElse Else P o c → OrElse Else P o x → c ≡ x
  else_single Else other None c x q h k = other c x h k
  else_single Else other (Some d) c x q h k = point d c x q h k

  -- where one value stands for what is absent
  else_one : (D : Cell) (o : Option Data) (c x : Cell) → IfGiven Q o → OrElse (λ y. y ≡ D) P o c → OrElse (λ y. y ≡ D) P o x → c ≡ x
  else_one D = else_single (λ y. y ≡ D) (λ c x h k. h ∙ sym k)

  -- where something is given
  given_single : (Else : Cell → Type 0) (o : Option Data) (c x : Cell) → IsGiven Q o → OrElse Else P o c → OrElse Else P o x → c ≡ x
  given_single Else None c x q h k = absurd q
  given_single Else (Some d) c x q h k = point d c x q h k

  row_single : (r : Rule) (now : Cell) (o : Option Data) (c x : Cell) → RowHolds r Q o → RowShows r P now o c → RowShows r P now o x → c ≡ x
  row_single must now o c x q h k = else_single (λ y. ⊥) (λ c x h k. absurd h) o c x q h k
  row_single may now o c x q h k = option_single (unless_null o) c x q h k
  row_single may_null now o c x q h k = option_single (unless_null o) c x q h k
  row_single may_strict now o c x q h k = option_single o c x q h k
  row_single (default D) now o c x q h k = else_one D o c x q h k
  row_single (always D) now o c x q h k = else_one D o c x q h k
  row_single (draw Drawn) now o c x q h k = given_single Drawn o c x q h k
  row_single at_once now o c x q h k = else_one now o c x q h k

module _ (Q : List ℕ → Data → Type 0) (P : List ℕ → Data → Cell → Type 0) (point : (k : List ℕ) (d : Data) (c x : Cell) → Q k d → P k d c → P k d x → c ≡ x) where
  entry_same : (k l m : List ℕ) (c x : Cell) (es xs : Entries) → k ≡ l → k ≡ m → c ≡ x → es ≡ xs → entry l c es ≡ entry m x xs
  entry_same k l m c x es xs e f g h = cc

  members_single : (ms : Members) (es xs : Entries) → EachMember Q ms → MembersShow P ms es → MembersShow P ms xs → es ≡ xs
  members_single no_members no_entries no_entries q h k = refl
  members_single no_members no_entries (entry m x xs) q h k = absurd k
  members_single no_members (entry l c es) xs q h k = absurd h
  members_single (member key d ms) no_entries xs q h k = absurd h
  members_single (member key d ms) (entry l c es) no_entries q h k = absurd k
  members_single (member key d ms) (entry l c es) (entry m x xs) q h k = entry_same key l m c x es xs h.0 k.0 (point key d c x q.0 h.1 k.1) (members_single ms es xs q.1 h.2 k.2)

  mapping_single : (ms : Members) (c x : Cell) → EachMember Q ms → IsMapping (MembersShow P ms) c → IsMapping (MembersShow P ms) x → c ≡ x
  mapping_single ms (mapping es) (mapping xs) q h k = ap mapping (members_single ms es xs q h k)
  mapping_single ms (mapping es) _ q h k = absurd k
  mapping_single ms _ x q h k = absurd h

  object_single : (o : Option Members) (c x : Cell) → InObject Q o → ObjectShows P o c → ObjectShows P o x → c ≡ x
  object_single None c x q h k = absurd h
  object_single (Some ms) c x q h k = mapping_single ms c x q h k

-- rows that show one list of cells, and the members beside them
fields_single : (P : Cells → Type 0) (ms : Members) → ((cs xs : Cells) → P cs → P xs → cs ≡ xs)
    → (c x : Cell) → AreFields (λ cs other. P cs × (other ≡ ms)) c → AreFields (λ cs other. P cs × (other ≡ ms)) x → c ≡ x
fields_single P ms f (fields cs other) (fields xs more) h k = ap₂ fields (f cs xs h.0 k.0) (h.1 ∙ sym k.1)
fields_single P ms f (fields cs other) _ h k = absurd k
fields_single P ms f _ x h k = absurd h

choice_single : (P : ℕ → Cell → Type 0) → ((n m : ℕ) (c x : Cell) → P n c → P m x → (n ≡ m) × (c ≡ x)) → (c x : Cell) → IsChoice P c → IsChoice P x → c ≡ x
choice_single P f (choice n c) (choice m x) h k = let both = f n m c x h k in ap₂ choice both.0 both.1
choice_single P f (choice n c) _ h k = absurd k
choice_single P f _ x h k = absurd h

-- the word of a case that shows anything is a word of the cases
word_shown : (cases : Cases) (now : Cell) (word : Option (List ℕ)) (w : List ℕ) (d : Data) (n : ℕ) (c : Cell) → word ≡ Some w → CaseShows cases now word d n c → is_among w (words cases) ≡ true
word_shown no_cases now word w d n c e h = absurd h
word_shown (case v rows o cases) now word w d zero c e h = let same : v ≡ w = cc in subst (λ u. is_among u (v ∷ words cases) ≡ true) same (is_among_here v (words cases))
word_shown (case v rows o cases) now word w d (suc n) c e h = is_among_later w v (words cases) (word_shown cases now word w d n c e h)

-- ---- kinds

module _ (now : Cell) where
  mutual
    pub single : (K : Kind) → IsLawful K → (d : Data) (c x : Cell) → NothingDrawn K d → Shows K now d c → Shows K now d x → c ≡ x
    single (scalar s) laws d c x q h k = laws.single d c x h k
    single (list K) laws d c x q h k = array_single (NothingDrawn K) (Shows K now) (single K laws) (as_array d) c x q h k
    single (map K) laws d c x q h k = object_single (λ l. NothingDrawn K) (λ l. Shows K now) (λ l. single K laws) (as_object d) c x q h k
    single (values K) laws d c x q h k = array_single (NothingDrawn K) (Shows K now) (single K laws) (values_in d) c x q h k
    single (table rows o) laws d c x q h k = fields_single (RowsShow rows now d) (others o (keys rows) (members_in d)) (λ cs xs. rows_single rows laws d cs xs q) c x h.1 k.1
    single (tagged cases) laws d c x q h k = choice_single (CaseShows cases now (tag_word None d) d) (λ n m y z. case_single cases laws (tag_word None d) d n m y z q) c x h.1 k.1
    single (tagged_map cases fallback) laws d c x q h k =
        object_single (λ l e. CasesDrawNothing cases (tag_word (Some (word_at l (words cases) fallback)) e) e)
        (λ l e y. (is_object e ≡ true) × IsChoice (CaseShows cases now (tag_word (Some (word_at l (words cases) fallback)) e) e) y)
        (λ l e y z p a b. choice_single (CaseShows cases now (tag_word (Some (word_at l (words cases) fallback)) e) e) (λ n m v w. case_single cases laws (tag_word (Some (word_at l (words cases) fallback)) e) e n m v w p) y z a.1 b.1)
        (as_object d) c x q h k

    rows_single : (rows : Rows) → RowsLawful rows → (d : Data) (cs xs : Cells) → RowsDrawNothing rows d → RowsShow rows now d cs → RowsShow rows now d xs → cs ≡ xs
    rows_single no_rows laws d no_cells no_cells q h k = refl
    rows_single no_rows laws d no_cells (cell x xs) q h k = absurd k
    rows_single no_rows laws d (cell c cs) xs q h k = absurd h
    rows_single (row l r K rows) laws d no_cells xs q h k = absurd h
    rows_single (row l r K rows) laws d (cell c cs) no_cells q h k = absurd k
    rows_single (row l r K rows) laws d (cell c cs) (cell x xs) q h k =
        ap₂ cell (row_single (NothingDrawn K) (Shows K now) (single K laws.2) r now (get l d) c x q.0 h.0 k.0) (rows_single rows laws.3 d cs xs q.1 h.1 k.1)

    case_single : (cases : Cases) → CasesLawful cases → (word : Option (List ℕ)) (d : Data) (n m : ℕ) (c x : Cell) → CasesDrawNothing cases word d
        → CaseShows cases now word d n c → CaseShows cases now word d m x → (n ≡ m) × (c ≡ x)
    case_single no_cases laws word d n m c x q h k = absurd h
    case_single (case w rows o cases) laws word d zero zero c x q h k =
        (refl, fields_single (RowsShow rows now d) (others o (keys rows) (members_in d)) (λ cs xs. rows_single rows laws.3 d cs xs (q.0 h.0)) c x h.1 k.1)
    case_single (case w rows o cases) laws word d zero (suc m) c x q h k = absurd (false≢true (sym laws.0 ∙ word_shown cases now word w d m x h.0 k))
    case_single (case w rows o cases) laws word d (suc n) zero c x q h k = absurd (false≢true (sym laws.0 ∙ word_shown cases now word w d n c k.0 h))
    case_single (case w rows o cases) laws word d (suc n) (suc m) c x q h k = let both = case_single cases laws.4 word d n m c x q.1 h k in (ap suc both.0, both.1)
