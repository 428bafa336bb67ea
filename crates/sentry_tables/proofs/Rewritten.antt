-- What a tree shows is written as its normal form is.
use Rattle.std.proofs.Common.{◌≡◌, ℕ, zero, suc, List, Bool, true, false, cond, Option, Some, None, refl, sym, ap, ap₂, ◌∙◌, subst, true≢false}
use Rattle.serde_json.specs.Data.{Data, boolean, number, string, array, object, Items, no_items, item, Members, no_members, member, put}
use Rattle.serde_json.specs.Find.{get_member, as_array, as_object}
use Rattle.sentry_tables.specs.Cell.{Cell, absent, present, sequence, mapping, fields, choice, Cells, no_cells, cell, Entries, no_entries, entry, same_cell}
use Rattle.sentry_tables.specs.Kind.{Rule, must, may, may_null, may_strict, default, always, draw, at_once, Kind, scalar, list, map, values, table, tagged, tagged_map, Rows, no_rows, row, Cases, no_cases, case, keys, words, tag, others}
use Rattle.sentry_tables.specs.Shows.{is_object, members_in, ObjectShows, IsSequence, IsMapping, AreFields, IsChoice, ItemsShow, MembersShow, ArrayShows, ShowsOption, RowShows, OrElse, word_at, tag_word, Shows, RowsShow, CaseShows, values_key, values_in, unless_null}
use Rattle.sentry_tables.specs.Norm.{cells_of, other_of, entries_of, which, chosen, each_cell, each_entry, optional_norm, row_norm, is_null_of, norm, rows_norm, case_norm}
use Rattle.sentry_tables.specs.Written.{is_null, items_tree, members_tree, optional_tree, row_tree, put_given, tree, rows_tree, case_tree}
use Rattle.sentry_tables.specs.Meets.{RowMeets, IsProper}
use Rattle.sentry_tables.specs.Lawful.{IsMoment, RuleLaws, IsLawful, RowsLawful, CasesLawful}
use Rattle.sentry_json.specs.Sound.{IsSound, AreSound, MembersAreSound}
use Rattle.sentry_tables.proofs.Normal.{again}
use Rattle.sentry_tables.proofs.Shown.{SoundIf, ItemsSoundIf, found_sound, array_sound, values_sound, not_null_sound, object_holds, MembersSoundIf, object_sound, row_met, shown_proper}
use Rattle.sentry_tables.proofs.Nulls.{shown_null}

-- ---- one level

module _ (P : Data → Cell → Type 0) (f : Cell → Data) (g : Cell → Cell) (point : (d : Data) (c : Cell) → IsSound d → P d c → f c ≡ f (g c)) where
  items_same : (ds : Items) (cs : Cells) → AreSound ds → ItemsShow P ds cs → items_tree f cs ≡ items_tree f (each_cell g cs)
  items_same no_items no_cells s h = refl
  items_same no_items (cell c cs) s h = absurd h
  items_same (item d ds) no_cells s h = absurd h
  items_same (item d ds) (cell c cs) s h = ap₂ item (point d c s.0 h.0) (items_same ds cs s.1 h.1)

  sequence_same : (ds : Items) (c : Cell) → AreSound ds → IsSequence (ItemsShow P ds) c → items_tree f (cells_of c) ≡ items_tree f (each_cell g (cells_of c))
  sequence_same ds (sequence cs) s h = items_same ds cs s h
  sequence_same ds _ s h = absurd h

  array_same : (o : Option Items) (c : Cell) → ItemsSoundIf o → ArrayShows P o c → items_tree f (cells_of c) ≡ items_tree f (each_cell g (cells_of c))
  array_same None c s h = absurd h
  array_same (Some ds) c s h = sequence_same ds c s h

module _ (P : List ℕ → Data → Cell → Type 0) (f : Cell → Data) (g : Cell → Cell) (point : (k : List ℕ) (d : Data) (c : Cell) → IsSound d → P k d c → f c ≡ f (g c)) where
  members_same : (ms : Members) (es : Entries) → MembersAreSound ms → MembersShow P ms es → members_tree f es ≡ members_tree f (each_entry g es)
  members_same no_members no_entries s h = refl
  members_same no_members (entry l c es) s h = absurd h
  members_same (member k d ms) no_entries s h = absurd h
  members_same (member k d ms) (entry l c es) s h = ap₂ (member l) (point k d c s.1 h.1) (members_same ms es s.2 h.2)

  mapping_same : (ms : Members) (c : Cell) → MembersAreSound ms → IsMapping (MembersShow P ms) c → members_tree f (entries_of c) ≡ members_tree f (each_entry g (entries_of c))
  mapping_same ms (mapping es) s h = members_same ms es s h
  mapping_same ms _ s h = absurd h

  object_same : (o : Option Members) (c : Cell) → MembersSoundIf o → ObjectShows P o c → members_tree f (entries_of c) ≡ members_tree f (each_entry g (entries_of c))
  object_same None c s h = absurd h
  object_same (Some ms) c s h = mapping_same ms c s.1 h

-- ---- rows

given_not_null : (o : Option Data) → (d : Data) → unless_null o ≡ Some d → is_null d ≡ false
given_not_null None d e = absurd (cc)
given_not_null (Some Data.null) d e = absurd (cc)
given_not_null (Some (boolean b)) d e = let same : boolean b ≡ d = cc in ap is_null (sym same)
given_not_null (Some (number n)) d e = let same : number n ≡ d = cc in ap is_null (sym same)
given_not_null (Some (string s)) d e = let same : string s ≡ d = cc in ap is_null (sym same)
given_not_null (Some (array ds)) d e = let same : array ds ≡ d = cc in ap is_null (sym same)
given_not_null (Some (object ms)) d e = let same : object ms ≡ d = cc in ap is_null (sym same)

module _ (P : Data → Cell → Type 0) (f : Cell → Data) (g : Cell → Cell) (point : (d : Data) (c : Cell) → IsSound d → P d c → f c ≡ f (g c)) (null : Cell → Bool)
    (null_shown : (d : Data) (c : Cell) → P d c → null c ≡ true → is_null d ≡ true) where
  kept_present : (b : Bool) (x : Cell) (without : Option Data) → null x ≡ b → b ≡ false → f x ≡ f (g x) → Some (f x) ≡ optional_tree without f (cond (null x) absent (present (g x)))
  kept_present true x without e bad same = absurd (true≢false bad)
  kept_present false x without e bad same = ap Some same ∙ sym (ap (λ b. optional_tree without f (cond b absent (present (g x)))) e)

  not_null : (b : Bool) (d : Data) → (b ≡ true → is_null d ≡ true) → is_null d ≡ false → b ≡ false
  not_null true d h e = absurd (true≢false (sym (h refl) ∙ e))
  not_null false d h e = refl

  given_same : (without : Option Data) (o : Option Data) (c : Cell) → ((d : Data) → o ≡ Some d → is_null d ≡ false) → SoundIf o → ShowsOption P o c
      → optional_tree without f c ≡ optional_tree without f (optional_norm (λ x. cond (null x) absent (present (g x))) c)
  given_same without None c real s h = ap (optional_tree without f) h ∙ sym (ap (λ x. optional_tree without f (optional_norm (λ y. cond (null y) absent (present (g y))) x)) h)
  given_same without (Some d) (present x) real s h = kept_present _ x without refl (not_null (null x) d (null_shown d x h) (real d refl)) (point d x s h)
  given_same without (Some d) _ real s h = absurd h

  strict_same : (without : Option Data) (o : Option Data) (c : Cell) → SoundIf o → ShowsOption P o c → optional_tree without f c ≡ optional_tree without f (optional_norm (λ x. present (g x)) c)
  strict_same without None c s h = ap (optional_tree without f) h ∙ sym (ap (λ x. optional_tree without f (optional_norm (λ y. present (g y)) x)) h)
  strict_same without (Some d) (present x) s h = ap Some (point d x s h)
  strict_same without (Some d) _ s h = absurd h

  else_same : (Else : Cell → Type 0) → ((c : Cell) → Else c → g c ≡ c) → (o : Option Data) (c : Cell) → SoundIf o → OrElse Else P o c → f c ≡ f (g c)
  else_same Else other None c s h = ap f (sym (other c h))
  else_same Else other (Some d) c s h = point d c s h

module _ (now : Cell) (real : IsMoment now) where
  row_same : (r : Rule) (K : Kind) → RuleLaws r K → IsLawful K → ((d : Data) (c : Cell) → IsSound d → Shows K now d c → tree K c ≡ tree K (norm K c)) → (o : Option Data) (c : Cell) → SoundIf o → RowMeets r (IsProper K) c
      → RowShows r (Shows K now) now o c → row_tree r (tree K) (norm K) c ≡ row_tree r (tree K) (norm K) (row_norm r (is_null_of K) (norm K) c)
  row_same must K laws own point o c s p h = ap Some (else_same (Shows K now) (tree K) (norm K) point (is_null_of K) (shown_null K own now) (λ x. ⊥) (λ x e. absurd e) o c s h)
  row_same may K laws own point o c s p h = given_same (Shows K now) (tree K) (norm K) point (is_null_of K) (shown_null K own now) None (unless_null o) c (given_not_null o) (not_null_sound o s) h
  row_same may_null K laws own point o c s p h = given_same (Shows K now) (tree K) (norm K) point (is_null_of K) (shown_null K own now) (Some Data.null) (unless_null o) c (given_not_null o) (not_null_sound o s) h
  row_same may_strict K laws own point o c s p h = strict_same (Shows K now) (tree K) (norm K) point (is_null_of K) (shown_null K own now) None o c s h
  row_same (default D) K laws own point o c s p h =
      let same = else_same (Shows K now) (tree K) (norm K) point (is_null_of K) (shown_null K own now) (λ x. x ≡ D) (λ x e. ap (norm K) e ∙ laws.1.3 ∙ sym e) o c s h in
      ap₂ (λ (n : Cell) (t : Data). cond (same_cell n D) None (Some t)) (sym (again K own c p)) same
  row_same (always D) K laws own point o c s p h =
      ap Some (else_same (Shows K now) (tree K) (norm K) point (is_null_of K) (shown_null K own now) (λ x. x ≡ D) (λ x e. ap (norm K) e ∙ laws.1.3 ∙ sym e) o c s h)
  row_same (draw Drawn) K laws own point o c s p h = ap Some (else_same (Shows K now) (tree K) (norm K) point (is_null_of K) (shown_null K own now) Drawn (λ x e. (laws.1 x e).3) o c s h)
  row_same at_once K laws own point o c s p h =
      ap Some (else_same (Shows K now) (tree K) (norm K) point (is_null_of K) (shown_null K own now) (λ x. x ≡ now) (λ x e. ap (norm K) e ∙ (laws.1 now real).3 ∙ sym e) o c s h)

  fields_same : (P : Cells → Members → Type 0) (t : Cells → Members → Members) (g : Cells → Cells) → ((cs : Cells) (other : Members) → P cs other → t cs other ≡ t (g cs) other) → (c : Cell) → AreFields P c
      → t (cells_of c) (other_of c) ≡ t (g (cells_of c)) (other_of c)
  fields_same P t g f (fields cs other) h = f cs other h
  fields_same P t g f _ h = absurd h

  choice_same : (P : ℕ → Cell → Type 0) (cases : Cases) → ((n : ℕ) (c : Cell) → P n c → case_tree cases n c ≡ case_tree cases n (case_norm cases n c)) → (c : Cell) → IsChoice P c
      → case_tree cases (which c) (chosen c) ≡ case_tree cases (which c) (case_norm cases (which c) (chosen c))
  choice_same P cases f (choice n c) h = f n c h
  choice_same P cases f _ h = absurd h

  mutual
    pub rewritten : (K : Kind) → IsLawful K → (d : Data) (c : Cell) → IsSound d → Shows K now d c → tree K c ≡ tree K (norm K c)
    rewritten (scalar s) laws d c sound h = laws.shown_tree d c sound h
    rewritten (list K) laws d c sound h = ap array (array_same (Shows K now) (tree K) (norm K) (rewritten K laws) (as_array d) c (array_sound d sound) h)
    rewritten (map K) laws d c sound h = ap object (object_same (λ k. Shows K now) (tree K) (norm K) (λ k. rewritten K laws) (as_object d) c (object_sound d sound) h)
    rewritten (values K) laws d c sound h =
        ap (λ ds. object (member values_key (array ds) no_members)) (array_same (Shows K now) (tree K) (norm K) (rewritten K laws) (values_in d) c (values_sound d sound) h)
    rewritten (table rows o) laws d c sound h =
        ap object (object_holds (λ e. AreFields (λ cs other. RowsShow rows now e cs × (other ≡ others o (keys rows) (members_in e))) c) d (rows_tree rows (cells_of c) (other_of c) ≡ rows_tree rows (rows_norm rows (cells_of c)) (other_of c))
        (λ ms is shown. fields_same (λ cs other. RowsShow rows now (object ms) cs × (other ≡ others o (keys rows) ms)) (rows_tree rows) (rows_norm rows) (λ cs other both. rows_same rows laws ms cs other (subst IsSound is sound).1 both.0) c shown) h.0 h.1)
    rewritten (tagged cases) laws d c sound h =
        ap object (object_holds (λ e. IsChoice (CaseShows cases now (tag_word None e) e) c) d (case_tree cases (which c) (chosen c) ≡ case_tree cases (which c) (case_norm cases (which c) (chosen c)))
        (λ ms is shown. choice_same (CaseShows cases now (tag_word None (object ms)) (object ms)) cases (λ n x. case_same cases laws (tag_word None (object ms)) ms n x (subst IsSound is sound).1) c shown) h.0 h.1)
    rewritten (tagged_map cases fallback) laws d c sound h =
        ap object (object_same (λ k e x. (is_object e ≡ true) × IsChoice (CaseShows cases now (tag_word (Some (word_at k (words cases) fallback)) e) e) x)
        (λ x. object (case_tree cases (which x) (chosen x))) (λ x. choice (which x) (case_norm cases (which x) (chosen x)))
        (λ k e x whole one. ap object (object_holds (λ f. IsChoice (CaseShows cases now (tag_word (Some (word_at k (words cases) fallback)) f) f) x) e
        (case_tree cases (which x) (chosen x) ≡ case_tree cases (which x) (case_norm cases (which x) (chosen x)))
        (λ ms same each. choice_same (CaseShows cases now (tag_word (Some (word_at k (words cases) fallback)) (object ms)) (object ms)) cases
        (λ n y. case_same cases laws (tag_word (Some (word_at k (words cases) fallback)) (object ms)) ms n y (subst IsSound same whole).1) x each) one.0 one.1))
        (as_object d) c (object_sound d sound) h)

    rows_same : (rows : Rows) → RowsLawful rows → (ms : Members) (cs : Cells) (other : Members) → MembersAreSound ms → RowsShow rows now (object ms) cs → rows_tree rows cs other ≡ rows_tree rows (rows_norm rows cs) other
    rows_same no_rows laws ms cs other sound h = refl
    rows_same (row k r K rows) laws ms no_cells other sound h = absurd h
    rows_same (row k r K rows) laws ms (cell c cs) other sound h =
        let found = found_sound k ms sound in
        let proper = row_met now real r K laws.1 (shown_proper now real K laws.2) (get_member k ms) c found h.0 in
        let same = row_same r K laws.1 laws.2 (rewritten K laws.2) (get_member k ms) c found proper h.0 in
        rows_same rows laws.3 ms cs (put_given k (row_tree r (tree K) (norm K) c) other) sound h.1 ∙ ap (λ x. rows_tree rows (rows_norm rows cs) (put_given k x other)) same

    case_same : (cases : Cases) → CasesLawful cases → (word : Option (List ℕ)) (ms : Members) (n : ℕ) (c : Cell) → MembersAreSound ms → CaseShows cases now word (object ms) n c → case_tree cases n c ≡ case_tree cases n (case_norm cases n c)
    case_same no_cases laws word ms n c sound h = absurd h
    case_same (case w rows o cases) laws word ms zero c sound h =
        fields_same (λ cs other. RowsShow rows now (object ms) cs × (other ≡ others o (keys rows) ms)) (λ cs other. rows_tree rows cs (put tag (string w) other)) (rows_norm rows) (λ cs other both. rows_same rows laws.3 ms cs (put tag (string w) other) sound both.0) c h.1
    case_same (case w rows o cases) laws word ms (suc n) c sound h = case_same cases laws.4 word ms n c sound h
