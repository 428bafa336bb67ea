-- Whether a tree shows any value can be told.
use Rattle.std.proofs.Common.{◌≡◌, ◌⊎◌, ℕ, zero, suc, List, Bool, true, false, Option, Some, None, bytes_eq, inl, inr, refl, sym, ap, ◌∙◌, true≢false}
use Rattle.std.proofs.lemmas.Bool.{false≢true}
use Rattle.serde_json.specs.Data.{Data, null, boolean, number, string, array, object, Items, no_items, item, Members, no_members, member}
use Rattle.serde_json.specs.Find.{get, as_array, as_object}
use Rattle.sentry_tables.specs.Cell.{Cell, absent, present, sequence, mapping, fields, choice, Cells, no_cells, cell, Entries, no_entries, entry}
use Rattle.sentry_tables.specs.Kind.{Rule, must, may, may_null, may_strict, default, always, draw, at_once, Other, Kind, scalar, list, map, values, table, tagged, tagged_map, Rows, no_rows, row, Cases, no_cases, case, keys, words, others}
use Rattle.sentry_tables.specs.Shows.{is_object, members_in, ObjectShows, IsPresent, IsSequence, IsMapping, AreFields, IsChoice, ItemsShow, MembersShow, ArrayShows, ShowsOption, RowShows, OrElse, word_at, tag_word, Shows, RowsShow, CaseShows, values_in, unless_null}
use Rattle.sentry_tables.specs.Lawful.{RuleLaws, IsLawful, RowsLawful, CasesLawful}
use Rattle.std.proofs.lemmas.Slice.Eq.{bytes_eq-Decides}

abbrev pub Decided : {A : Type 0} → (A → Type 0) → Type 0
Decided {A} P = ((x : A) × P x) ⊎ ((x : A) → P x → ⊥)

-- along an embedding that reaches all that Q holds of
moved : {A B : Type 0} (P : A → Type 0) (Q : B → Type 0) (f : A → B) → ((x : A) → P x → Q (f x)) → ((y : B) → Q y → (x : A) × P x) → Decided P → Decided Q
moved P Q f there back (inl found) = inl (f found.0, there found.0 found.1)
moved P Q f there back (inr none) = inr (λ y q. let x = back y q in none x.0 x.1)

module _ (P : Data → Cell → Type 0) (point : (d : Data) → Decided (P d)) where
  items_decided : (ds : Items) → Decided (ItemsShow P ds)
  items_decided no_items = inl (no_cells, tt)
  items_decided (item d ds) = go (point d) (items_decided ds)
    where
      go : Decided (P d) → Decided (ItemsShow P ds) → Decided (ItemsShow P (item d ds))
      go (inl one) (inl rest) = inl (cell one.0 rest.0, (one.1, rest.1))
      go (inl one) (inr none) = inr (elim [ no_cells ↦ λ h. h | cell c cs ↦ λ h. none cs h.1 ])
      go (inr none) rest = inr (elim [ no_cells ↦ λ h. h | cell c cs ↦ λ h. none c h.0 ])

  is_sequence : (ds : Items) (c : Cell) → IsSequence (ItemsShow P ds) c → (cs : Cells) × ItemsShow P ds cs
  is_sequence ds (sequence cs) h = (cs, h)
  is_sequence ds _ h = absurd h

  pub array_decided : (o : Option Items) → Decided (ArrayShows P o)
  array_decided None = inr (λ c h. h)
  array_decided (Some ds) = moved (ItemsShow P ds) (ArrayShows P (Some ds)) sequence (λ cs h. h) (is_sequence ds) (items_decided ds)

  is_present : (d : Data) (c : Cell) → IsPresent (P d) c → (x : Cell) × P d x
  is_present d (present x) h = (x, h)
  is_present d _ h = absurd h

  option_decided : (o : Option Data) → Decided (ShowsOption P o)
  option_decided None = inl (absent, refl)
  option_decided (Some d) = moved (P d) (ShowsOption P (Some d)) present (λ x h. h) (is_present d) (point d)

  else_decided : (Else : Cell → Type 0) → Decided Else → (o : Option Data) → Decided (OrElse Else P o)
  else_decided Else other None = other
  else_decided Else other (Some d) = point d

module _ (P : List ℕ → Data → Cell → Type 0) (point : (k : List ℕ) (d : Data) → Decided (P k d)) where
  members_decided : (ms : Members) → Decided (MembersShow P ms)
  members_decided no_members = inl (no_entries, tt)
  members_decided (member k d ms) = go (point k d) (members_decided ms)
    where
      go : Decided (P k d) → Decided (MembersShow P ms) → Decided (MembersShow P (member k d ms))
      go (inl one) (inl rest) = inl (entry k one.0 rest.0, (refl, one.1, rest.1))
      go (inl one) (inr none) = inr (elim [ no_entries ↦ λ h. h | entry l c es ↦ λ h. none es h.2 ])
      go (inr none) rest = inr (elim [ no_entries ↦ λ h. h | entry l c es ↦ λ h. none c h.1 ])

  is_mapping : (ms : Members) (c : Cell) → IsMapping (MembersShow P ms) c → (es : Entries) × MembersShow P ms es
  is_mapping ms (mapping es) h = (es, h)
  is_mapping ms _ h = absurd h

  pub mapping_decided : (ms : Members) → Decided (IsMapping (MembersShow P ms))
  mapping_decided ms = moved (MembersShow P ms) (IsMapping (MembersShow P ms)) mapping (λ es h. h) (is_mapping ms) (members_decided ms)

map_decided : (P : List ℕ → Data → Cell → Type 0) → ((k : List ℕ) (d : Data) → Decided (P k d)) → (o : Option Members) → Decided (ObjectShows P o)
map_decided P point None = inr (λ c h. h)
map_decided P point (Some ms) = mapping_decided P point ms

object_decided : (P : Data → Cell → Type 0) → ((d : Data) → Decided (P d)) → (d : Data) → Decided (λ c. (is_object d ≡ true) × P d c)
object_decided P point null = inr (λ c h. false≢true h.0)
object_decided P point (boolean b) = inr (λ c h. false≢true h.0)
object_decided P point (number n) = inr (λ c h. false≢true h.0)
object_decided P point (string s) = inr (λ c h. false≢true h.0)
object_decided P point (array ds) = inr (λ c h. false≢true h.0)
object_decided P point (object ms) = moved (P (object ms)) (λ c. (is_object (object ms) ≡ true) × P (object ms) c) (λ c. c) (λ c h. (refl, h)) (λ c h. (c, h.1)) (point (object ms))

is_fields : (P : Cells → Type 0) (other : Members) (c : Cell) → AreFields (λ cs more. P cs × (more ≡ other)) c → (cs : Cells) × P cs
is_fields P other (fields cs more) h = (cs, h.0)
is_fields P other _ h = absurd h

fields_decided : (P : Cells → Type 0) (other : Members) → Decided P → Decided (AreFields (λ cs more. P cs × (more ≡ other)))
fields_decided P other h = moved P (AreFields (λ cs more. P cs × (more ≡ other))) (λ cs. fields cs other) (λ cs h. (h, refl)) (is_fields P other) h

is_choice : (P : ℕ → Cell → Type 0) (c : Cell) → IsChoice P c → (p : ℕ × Cell) × P p.0 p.1
is_choice P (choice n x) h = ((n, x), h)
is_choice P _ h = absurd h

choice_decided : (P : ℕ → Cell → Type 0) → Decided (λ (p : ℕ × Cell). P p.0 p.1) → Decided (IsChoice P)
choice_decided P h = moved (λ (p : ℕ × Cell). P p.0 p.1) (IsChoice P) (λ p. choice p.0 p.1) (λ p h. h) (is_choice P) h

word_decided : (word : Option (List ℕ)) (w : List ℕ) → (word ≡ Some w) ⊎ (word ≡ Some w → ⊥)
word_decided None w = inr (λ e. cc)
word_decided (Some v) w = go (bytes_eq v w) refl
  where
    go : (b : Bool) → bytes_eq v w ≡ b → (Some v ≡ Some w) ⊎ (Some v ≡ Some w → ⊥)
    go true e = inl (ap Some ((bytes_eq-Decides v w).0 e))
    go false e = inr (λ same. let is : v ≡ w = cc in true≢false (sym ((bytes_eq-Decides v w).1 is) ∙ e))

module _ (now : Cell) where
  row_decided : (r : Rule) (K : Kind) → RuleLaws r K → ((d : Data) → Decided (Shows K now d)) → (o : Option Data) → Decided (RowShows r (Shows K now) now o)
  row_decided must K laws point o = else_decided (Shows K now) point (λ x. ⊥) (inr (λ x h. h)) o
  row_decided may K laws point o = option_decided (Shows K now) point (unless_null o)
  row_decided may_null K laws point o = option_decided (Shows K now) point (unless_null o)
  row_decided may_strict K laws point o = option_decided (Shows K now) point o
  row_decided (default D) K laws point o = else_decided (Shows K now) point (λ x. x ≡ D) (inl (D, refl)) o
  row_decided (always D) K laws point o = else_decided (Shows K now) point (λ x. x ≡ D) (inl (D, refl)) o
  row_decided (draw Drawn) K laws point o = else_decided (Shows K now) point Drawn (inl laws.2) o
  row_decided at_once K laws point o = else_decided (Shows K now) point (λ x. x ≡ now) (inl (now, refl)) o

  one_more : (P : Cell → Type 0) (Q : Cells → Type 0) (R : Cells → Type 0) → ((c : Cell) (cs : Cells) → P c → Q cs → R (cell c cs)) → ((cs : Cells) → R cs → ((c : Cell) × P c) × ((ds : Cells) × Q ds))
      → Decided P → Decided Q → Decided R
  one_more P Q R make split (inl one) (inl rest) = inl (cell one.0 rest.0, make one.0 rest.0 one.1 rest.1)
  one_more P Q R make split (inl one) (inr none) = inr (λ cs h. let both = split cs h in none both.1.0 both.1.1)
  one_more P Q R make split (inr none) rest = inr (λ cs h. let both = split cs h in none both.0.0 both.0.1)

  rows_split : (k : List ℕ) (r : Rule) (K : Kind) (rows : Rows) (ms : Data) (cs : Cells) → RowsShow (row k r K rows) now ms cs
      → ((c : Cell) × RowShows r (Shows K now) now (get k ms) c) × ((ds : Cells) × RowsShow rows now ms ds)
  rows_split k r K rows ms no_cells h = absurd h
  rows_split k r K rows ms (cell c cs) h = ((c, h.0), (cs, h.1))

  first_or_later : (P : Cell → Type 0) (Q R : ℕ × Cell → Type 0) → ((c : Cell) → P c → R (zero, c)) → ((p : ℕ × Cell) → Q p → R (suc p.0, p.1)) → ((p : ℕ × Cell) → R p → ((c : Cell) × P c) ⊎ ((p : ℕ × Cell) × Q p))
      → Decided P → Decided Q → Decided R
  first_or_later P Q R here there split (inl one) later = inl ((zero, one.0), here one.0 one.1)
  first_or_later P Q R here there split (inr none) (inl one) = inl ((suc one.0.0, one.0.1), there one.0 one.1)
  first_or_later P Q R here there split (inr none) (inr never) = inr (λ p h. elim (split p h) [ inl x ↦ none x.0 x.1 | inr y ↦ never y.0 y.1 ])

  case_split : (w : List ℕ) (rows : Rows) (o : Other) (cases : Cases) (word : Option (List ℕ)) (ms : Data) (n : ℕ) (c : Cell) → CaseShows (case w rows o cases) now word ms n c
      → ((x : Cell) × ((word ≡ Some w) × AreFields (λ cs other. RowsShow rows now ms cs × (other ≡ others o (keys rows) (members_in ms))) x)) ⊎ ((p : ℕ × Cell) × CaseShows cases now word ms p.0 p.1)
  case_split w rows o cases word ms zero c h = inl (c, h)
  case_split w rows o cases word ms (suc n) c h = inr ((n, c), h)

  with_word : (word : Option (List ℕ)) (w : List ℕ) (P : Cell → Type 0) → Decided P → Decided (λ c. (word ≡ Some w) × P c)
  with_word word w P h = go (word_decided word w) h
    where
      go : (word ≡ Some w) ⊎ (word ≡ Some w → ⊥) → Decided P → Decided (λ c. (word ≡ Some w) × P c)
      go (inl e) (inl found) = inl (found.0, (e, found.1))
      go (inl e) (inr none) = inr (λ c h. none c h.1)
      go (inr e) d = inr (λ c h. e h.0)

  mutual
    pub decided : (K : Kind) → IsLawful K → (d : Data) → Decided (Shows K now d)
    decided (scalar s) laws d = laws.decide d
    decided (list K) laws d = array_decided (Shows K now) (decided K laws) (as_array d)
    decided (map K) laws d = map_decided (λ k. Shows K now) (λ k. decided K laws) (as_object d)
    decided (values K) laws d = array_decided (Shows K now) (decided K laws) (values_in d)
    decided (table rows o) laws d =
        object_decided (λ e. AreFields (λ cs other. RowsShow rows now e cs × (other ≡ others o (keys rows) (members_in e))))
        (λ e. fields_decided (RowsShow rows now e) (others o (keys rows) (members_in e)) (rows_decided rows laws e)) d
    decided (tagged cases) laws d =
        object_decided (λ e. IsChoice (CaseShows cases now (tag_word None e) e))
        (λ e. choice_decided (CaseShows cases now (tag_word None e) e) (case_decided cases laws (tag_word None e) e)) d
    decided (tagged_map cases fallback) laws d =
        map_decided (λ k e x. (is_object e ≡ true) × IsChoice (CaseShows cases now (tag_word (Some (word_at k (words cases) fallback)) e) e) x)
        (λ k. object_decided (λ e. IsChoice (CaseShows cases now (tag_word (Some (word_at k (words cases) fallback)) e) e))
        (λ e. choice_decided (CaseShows cases now (tag_word (Some (word_at k (words cases) fallback)) e) e) (case_decided cases laws (tag_word (Some (word_at k (words cases) fallback)) e) e)))
        (as_object d)

    rows_decided : (rows : Rows) → RowsLawful rows → (ms : Data) → Decided (RowsShow rows now ms)
    rows_decided no_rows laws ms = inl (no_cells, tt)
    rows_decided (row k r K rows) laws ms =
        one_more (RowShows r (Shows K now) now (get k ms)) (RowsShow rows now ms) (RowsShow (row k r K rows) now ms) (λ c cs h t. (h, t)) (rows_split k r K rows ms)
        (row_decided r K laws.1 (decided K laws.2) (get k ms)) (rows_decided rows laws.3 ms)

    case_decided : (cases : Cases) → CasesLawful cases → (word : Option (List ℕ)) (ms : Data) → Decided (λ (p : ℕ × Cell). CaseShows cases now word ms p.0 p.1)
    case_decided no_cases laws word ms = inr (λ p h. h)
    case_decided (case w rows o cases) laws word ms =
        first_or_later (λ x. (word ≡ Some w) × AreFields (λ cs other. RowsShow rows now ms cs × (other ≡ others o (keys rows) (members_in ms))) x) (λ p. CaseShows cases now word ms p.0 p.1)
        (λ p. CaseShows (case w rows o cases) now word ms p.0 p.1) (λ c h. h) (λ p h. h) (λ p. case_split w rows o cases word ms p.0 p.1)
        (with_word word w _ (fields_decided (RowsShow rows now ms) (others o (keys rows) (members_in ms)) (rows_decided rows laws.3 ms)))
        (case_decided cases laws.4 word ms)
