-- The written tree shows the normal form, and nothing else.
use Rattle.std.proofs.Common.{◌≡◌, ℕ, zero, suc, List, ◌∷◌, ◌++◌, Bool, true, false, cond, ◌||◌, Option, Some, None, refl, sym, ap, ◌∙◌, subst, true≢false}
use Rattle.std.proofs.lemmas.Bool.{false≢true}
use Rattle.std.specs.Prelude.{⊤}
use Rattle.serde_json.specs.Data.{Data, boolean, number, string, array, object, Members, put}
use Rattle.serde_json.specs.Find.{get_member}
use Rattle.serde_json.proofs.Views.{get_member-put, get_member-put_other}
use Rattle.sentry_json.specs.Keys.{is_among, beside}
use Rattle.sentry_json.proofs.Beside.{beside_named}
use Rattle.sentry_tables.specs.Cell.{Cell, absent, present, sequence, mapping, fields, choice, Cells, no_cells, cell, Entries, no_entries, entry, same_cell}
use Rattle.sentry_tables.specs.Kind.{Rule, must, may, may_null, may_strict, default, always, draw, at_once, Other, ignored, kept, Kind, scalar, list, map, values, table, tagged, tagged_map, Rows, no_rows, row, Cases, no_cases, case, keys, words, tag, others}
use Rattle.sentry_tables.specs.Shows.{is_object, ObjectShows, IsSequence, IsMapping, IsChoice, ItemsShow, MembersShow, ArrayShows, unless_null_at, ShowsOption, RowShows, OrElse, word_at, word_or, tag_word, Shows, RowsShow, CaseShows}
use Rattle.sentry_tables.specs.Norm.{cells_of, entries_of, which, chosen, each_cell, each_entry, row_norm, is_null_of, norm, rows_norm, case_norm}
use Rattle.sentry_tables.specs.Written.{is_null, items_tree, members_tree, row_tree, put_given, tree, rows_tree, case_tree}
use Rattle.sentry_tables.specs.Meets.{AllCells, AllEntries, AreOrderedTexts, entry_keys, RowMeets, proper_demand, readable_demand, RowsMeet, CaseMeets, IsProper, IsReadable}
use Rattle.sentry_tables.specs.Lawful.{KeepsTag, IsLawful, RowsLawful, CasesLawful}
use Rattle.sentry_tables.proofs.Nulls.{null_tree}
use Rattle.sentry_tables.proofs.Proper.{proper_stored}
use Rattle.sentry_tables.proofs.Members.{MayStand, same_cell_is, apart, is_among_here, is_among_later, is_among_after, is_among_before, get-put_given, get-put_given_other, beside-put_given, beside-clear, get-may_stand}

-- ---- one level, forwards

module _ (P : Data → Cell → Type 0) (f : Cell → Data) (g : Cell → Cell) (Q R : Cell → Type 0) (point : (c : Cell) → Q c → R c → P (f c) (g c)) (null : Cell → Bool)
    (null_same : (c : Cell) → Q c → is_null (f c) ≡ null c) where
  items_back : (cs : Cells) → AllCells Q cs → AllCells R cs → ItemsShow P (items_tree f cs) (each_cell g cs)
  items_back no_cells q r = tt
  items_back (cell c cs) q r = (point c q.0 r.0, items_back cs q.1 r.1)

  pub sequence_back : (c : Cell) → IsSequence (AllCells Q) c → IsSequence (AllCells R) c → ArrayShows P (Some (items_tree f (cells_of c))) (sequence (each_cell g (cells_of c)))
  sequence_back (sequence cs) q r = items_back cs q r
  sequence_back _ q r = absurd q

  optional_back : (d : Data) (x : Cell) → P d x → ShowsOption P (unless_null_at d) (cond (is_null d) absent (present x))
  optional_back Data.null x p = refl
  optional_back (boolean b) x p = p
  optional_back (number n) x p = p
  optional_back (string s) x p = p
  optional_back (array ds) x p = p
  optional_back (object ms) x p = p

  maybe_back : (c : Cell) → Q c → R c → ShowsOption P (unless_null_at (f c)) (cond (null c) absent (present (g c)))
  maybe_back c q r = subst (λ b. ShowsOption P (unless_null_at (f c)) (cond b absent (present (g c)))) (null_same c q) (optional_back (f c) (g c) (point c q r))

  default_back : (b : Bool) (D c now : Cell) → same_cell (g c) D ≡ b → P (f c) (g c) → OrElse (λ x. x ≡ D) P (cond b None (Some (f c))) (g c)
  default_back true D c now e p = same_cell_is (g c) D e
  default_back false D c now e p = p

  pub row_back : (r : Rule) (now c : Cell) → RowMeets r Q c → RowMeets r R c → RowShows r P now (row_tree r f g c) (row_norm r null g c)
  row_back must now c q r = point c q r
  row_back may now absent q r = refl
  row_back may now (present c) q r = maybe_back c q r
  row_back may now _ q r = absurd q
  row_back may_null now absent q r = refl
  row_back may_null now (present c) q r = maybe_back c q r
  row_back may_null now _ q r = absurd q
  row_back may_strict now absent q r = refl
  row_back may_strict now (present c) q r = point c q r
  row_back may_strict now _ q r = absurd q
  row_back (default D) now c q r = default_back _ D c now refl (point c q r)
  row_back (always D) now c q r = point c q r
  row_back (draw Drawn) now c q r = point c q r
  row_back at_once now c q r = point c q r

module _ (P : List ℕ → Data → Cell → Type 0) (f : Cell → Data) (g : Cell → Cell) (Q R : Cell → Type 0) (point : (k : List ℕ) (c : Cell) → Q c → R c → P k (f c) (g c)) where
  members_back : (es : Entries) → AllEntries Q es → AllEntries R es → MembersShow P (members_tree f es) (each_entry g es)
  members_back no_entries q r = tt
  members_back (entry k c es) q r = (refl, point k c q.0 r.0, members_back es q.1 r.1)

  pub mapping_back : (A B : Entries → Type 0) (c : Cell) → IsMapping (λ es. A es × AllEntries Q es) c → IsMapping (λ es. B es × AllEntries R es) c → ObjectShows P (Some (members_tree f (entries_of c))) (mapping (each_entry g (entries_of c)))
  mapping_back A B (mapping es) q r = members_back es q.1 r.1
  mapping_back A B _ q r = absurd q

-- ---- what is found in the written members

not_later : (a b : Bool) → (a || b) ≡ false → b ≡ false
not_later true b h = absurd (true≢false h)
not_later false b h = h

-- a key of no row has what it had before
pub no_row : (rows : Rows) (k : List ℕ) (cs : Cells) (ms : Members) → is_among k (keys rows) ≡ false → get_member k (rows_tree rows cs ms) ≡ get_member k ms
no_row no_rows k cs ms e = refl
no_row (row l r K rows) k no_cells ms e = refl
no_row (row l r K rows) k (cell c cs) ms e =
    no_row rows k cs (put_given l (row_tree r (tree K) (norm K) c) ms) (not_later _ _ e)
    ∙ get-put_given_other k l (row_tree r (tree K) (norm K) c) ms (λ same. false≢true (sym e ∙ ap (λ j. is_among j (l ∷ keys rows)) same ∙ is_among_here l (keys rows)))

all_rows : (rows : Rows) (ks : List (List ℕ)) (cs : Cells) (ms : Members) → ((k : List ℕ) → is_among k (keys rows) ≡ true → is_among k ks ≡ true) → beside ks (rows_tree rows cs ms) ≡ beside ks ms
all_rows no_rows ks cs ms all = refl
all_rows (row l r K rows) ks no_cells ms all = refl
all_rows (row l r K rows) ks (cell c cs) ms all =
    all_rows rows ks cs (put_given l (row_tree r (tree K) (norm K) c) ms) (λ k h. all k (is_among_later k l (keys rows) h))
    ∙ beside-put_given ks l (row_tree r (tree K) (norm K) c) ms (all l (is_among_here l (keys rows)))

pub others_back : (o : Other) (rows : Rows) (cs : Cells) (other : Members) → MayStand o (keys rows) other → others o (keys rows) (rows_tree rows cs other) ≡ other
others_back ignored rows cs other h = sym h.0
others_back (kept reserved) rows cs other h =
    all_rows rows (reserved ++ keys rows) cs other (λ k e. is_among_after k reserved (keys rows) e) ∙ beside-clear (reserved ++ keys rows) other h.1

-- the same beside a tag
pub others_tagged : (o : Other) (rows : Rows) (cs : Cells) (other : Members) (d : Data) → KeepsTag o → MayStand o (keys rows) other → others o (keys rows) (rows_tree rows cs (put tag d other)) ≡ other
others_tagged ignored rows cs other d k h = sym h.0
others_tagged (kept reserved) rows cs other d k h =
    all_rows rows (reserved ++ keys rows) cs (put tag d other) (λ j e. is_among_after j reserved (keys rows) e)
    ∙ beside_named (reserved ++ keys rows) tag d other (is_among_before tag reserved (keys rows) k) ∙ beside-clear (reserved ++ keys rows) other h.1

-- none of the keys stands there
abbrev pub Lacks : List (List ℕ) → Members → Type 0
Lacks ks ms = (k : List ℕ) → is_among k ks ≡ true → get_member k ms ≡ None

-- what is found at the first row, and that the later keys are still free
module _ (k : List ℕ) (o : Option Data) (rows : Rows) (cs : Cells) (ms : Members) (new : is_among k (keys rows) ≡ false) (free : Lacks (k ∷ keys rows) ms) where
  pub found : get_member k (rows_tree rows cs (put_given k o ms)) ≡ o
  found = no_row rows k cs (put_given k o ms) new ∙ get-put_given k o ms (free k (is_among_here k (keys rows)))

  pub free_later : Lacks (keys rows) (put_given k o ms)
  free_later j h = get-put_given_other j k o ms (apart k (keys rows) j new h) ∙ free j (is_among_later j k (keys rows) h)

-- the same beside a tag
pub free_tagged : (o : Other) (ks : List (List ℕ)) (other : Members) (d : Data) → is_among tag ks ≡ false → MayStand o ks other → Lacks ks (put tag d other)
free_tagged o ks other d new h k e = get_member-put_other k tag d other (apart tag ks k new e) ∙ get-may_stand o ks k other e h

pub tag_found : (rows : Rows) (cs : Cells) (other : Members) (d : Data) → is_among tag (keys rows) ≡ false → get_member tag (rows_tree rows cs (put tag d other)) ≡ Some d
tag_found rows cs other d new = no_row rows tag cs (put tag d other) new ∙ get_member-put tag d other

-- ---- the written tree shows the normal form

choice_back : (now : Cell) (cases : Cases) (implied : Option (List ℕ))
    → ((n : ℕ) (c : Cell) → CaseMeets proper_demand cases n c → CaseMeets readable_demand cases n c → CaseShows cases now (tag_word implied (object (case_tree cases n c))) (object (case_tree cases n c)) n (case_norm cases n c))
    → (x : Cell) → IsChoice (CaseMeets proper_demand cases) x → IsChoice (CaseMeets readable_demand cases) x
    → CaseShows cases now (tag_word implied (object (case_tree cases (which x) (chosen x)))) (object (case_tree cases (which x) (chosen x))) (which x) (case_norm cases (which x) (chosen x))
choice_back now cases implied point (choice n c) p q = point n c p q
choice_back now cases implied point _ p q = absurd p

module _ (now : Cell) where
  mutual
    pub back : (K : Kind) → IsLawful K → (c : Cell) → IsProper K c → IsReadable K c → Shows K now (tree K c) (norm K c)
    back (scalar s) laws c p q = laws.back c p q
    back (list K) laws c p q = sequence_back (Shows K now) (tree K) (norm K) (IsProper K) (IsReadable K) (back K laws) (is_null_of K) (λ x h. null_tree K laws x (proper_stored K x h)) c p q
    back (map K) laws c p q = mapping_back (λ k. Shows K now) (tree K) (norm K) (IsProper K) (IsReadable K) (λ k. back K laws) (λ es. AreOrderedTexts (entry_keys es)) (λ es. ⊤) c p q
    back (values K) laws c p q = sequence_back (Shows K now) (tree K) (norm K) (IsProper K) (IsReadable K) (back K laws) (is_null_of K) (λ x h. null_tree K laws x (proper_stored K x h)) c p q
    back (table rows o) laws (fields cs other) p q =
        (refl, (rows_back rows laws cs other (λ k h. get-may_stand o (keys rows) k other h p.1) p.0 q.0, sym (others_back o rows cs other p.1)))
    back (table rows o) laws _ p q = absurd p
    back (tagged cases) laws (choice n c) p q = (refl, case_back cases laws None n c p q)
    back (tagged cases) laws _ p q = absurd p
    back (tagged_map cases fallback) laws c p q =
        mapping_back (λ k e x. (is_object e ≡ true) × IsChoice (CaseShows cases now (tag_word (Some (word_at k (words cases) fallback)) e) e) x)
        (λ x. object (case_tree cases (which x) (chosen x))) (λ x. choice (which x) (case_norm cases (which x) (chosen x)))
        (IsChoice (CaseMeets proper_demand cases)) (IsChoice (CaseMeets readable_demand cases))
        (λ k x h t. (refl, choice_back now cases (Some (word_at k (words cases) fallback)) (case_back cases laws (Some (word_at k (words cases) fallback))) x h t)) (λ es. AreOrderedTexts (entry_keys es)) (λ es. ⊤) c p q

    rows_back : (rows : Rows) → RowsLawful rows → (cs : Cells) (ms : Members) → Lacks (keys rows) ms → RowsMeet proper_demand rows cs → RowsMeet readable_demand rows cs → RowsShow rows now (object (rows_tree rows cs ms)) (rows_norm rows cs)
    rows_back no_rows laws cs ms free p q = tt
    rows_back (row k r K rows) laws no_cells ms free p q = absurd p
    rows_back (row k r K rows) laws (cell c cs) ms free p q =
        let o = row_tree r (tree K) (norm K) c in (
          subst (λ (x : Option Data). RowShows r (Shows K now) now x (row_norm r (is_null_of K) (norm K) c)) (sym (found k o rows cs ms laws.0 free))
              (row_back (Shows K now) (tree K) (norm K) (IsProper K) (IsReadable K) (back K laws.2) (is_null_of K) (λ x h. null_tree K laws.2 x (proper_stored K x h)) r now c p.0 q.0),
          rows_back rows laws.3 cs (put_given k o ms) (free_later k o rows cs ms laws.0 free) p.1 q.1,
        )

    case_back : (cases : Cases) → CasesLawful cases → (implied : Option (List ℕ)) (n : ℕ) (c : Cell) → CaseMeets proper_demand cases n c → CaseMeets readable_demand cases n c
        → CaseShows cases now (tag_word implied (object (case_tree cases n c))) (object (case_tree cases n c)) n (case_norm cases n c)
    case_back no_cases laws implied n c p q = absurd p
    case_back (case w rows o cases) laws implied zero (fields cs other) p q = (
      ap (word_or implied) (tag_found rows cs other (string w) laws.1),
      (rows_back rows laws.3 cs (put tag (string w) other) (free_tagged o (keys rows) other (string w) laws.1 p.1) p.0 q.0, sym (others_tagged o rows cs other (string w) laws.2 p.1)),
    )
    case_back (case w rows o cases) laws implied zero _ p q = absurd p
    case_back (case w rows o cases) laws implied (suc n) c p q = case_back cases laws.4 implied n c p q
