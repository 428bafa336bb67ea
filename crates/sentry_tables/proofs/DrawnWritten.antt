-- Nothing is drawn of a written tree: a row that draws is always written.
use Rattle.std.proofs.Common.{◌≡◌, ℕ, zero, suc, List, ◌∷◌, Bool, true, false, cond, Option, Some, None, refl, sym, ap, ◌∙◌, subst}
use Rattle.std.proofs.lemmas.Bool.{false≢true}
use Rattle.std.proofs.lemmas.Option.{same_Some}
use Rattle.serde_json.specs.Data.{Data, null, boolean, number, string, array, object, Members, put}
use Rattle.sentry_json.specs.Keys.{is_among}
use Rattle.sentry_tables.specs.Cell.{Cell, absent, present, sequence, mapping, fields, choice, Cells, no_cells, cell, Entries, no_entries, entry, same_cell}
use Rattle.sentry_tables.specs.Kind.{Rule, must, may, may_null, may_strict, default, always, draw, at_once, Kind, scalar, list, map, values, table, tagged, tagged_map, Rows, no_rows, row, Cases, no_cases, case, keys, words, tag}
use Rattle.sentry_tables.specs.Shows.{IsSequence, IsMapping, IsChoice, unless_null_at, word_at, word_or, tag_word}
use Rattle.sentry_tables.specs.Norm.{cells_of, entries_of, which, chosen, norm}
use Rattle.sentry_tables.specs.Written.{items_tree, members_tree, row_tree, put_given, tree, rows_tree, case_tree}
use Rattle.sentry_tables.specs.Meets.{AllCells, AllEntries, RowMeets, proper_demand, RowsMeet, CaseMeets, IsProper}
use Rattle.sentry_tables.specs.Lawful.{IsLawful, RowsLawful, CasesLawful}
use Rattle.sentry_tables.specs.Drawn.{IfGiven, EachItem, EachMember, InArray, InObject, RowHolds, NothingDrawn, RowsDrawNothing, CasesDrawNothing}
use Rattle.sentry_tables.proofs.Members.{is_among_here, is_among_later, get-may_stand}
use Rattle.sentry_tables.proofs.Back.{Lacks, found, free_later, free_tagged, tag_found}

-- ---- one level

module _ (Q : Data → Type 0) (f : Cell → Data) (M : Cell → Type 0) (point : (c : Cell) → M c → Q (f c)) where
  items_drawn : (cs : Cells) → AllCells M cs → EachItem Q (items_tree f cs)
  items_drawn no_cells m = tt
  items_drawn (cell c cs) m = (point c m.0, items_drawn cs m.1)

  sequence_drawn : (c : Cell) → IsSequence (AllCells M) c → InArray Q (Some (items_tree f (cells_of c)))
  sequence_drawn (sequence cs) m = items_drawn cs m
  sequence_drawn _ m = absurd m

  unless_null_holds : (d : Data) → Q d → IfGiven Q (unless_null_at d)
  unless_null_holds null q = tt
  unless_null_holds (boolean b) q = q
  unless_null_holds (number n) q = q
  unless_null_holds (string s) q = q
  unless_null_holds (array ds) q = q
  unless_null_holds (object ms) q = q

  unless_default : (b : Bool) (d : Data) → Q d → IfGiven Q (cond b None (Some d))
  unless_default true d q = tt
  unless_default false d q = q

  row_drawn : (r : Rule) (g : Cell → Cell) (c : Cell) → RowMeets r M c → RowHolds r Q (row_tree r f g c)
  row_drawn must g c m = point c m
  row_drawn may g absent m = tt
  row_drawn may g (present c) m = unless_null_holds (f c) (point c m)
  row_drawn may g _ m = absurd m
  row_drawn may_null g absent m = tt
  row_drawn may_null g (present c) m = unless_null_holds (f c) (point c m)
  row_drawn may_null g _ m = absurd m
  row_drawn may_strict g absent m = tt
  row_drawn may_strict g (present c) m = point c m
  row_drawn may_strict g _ m = absurd m
  row_drawn (default D) g c m = unless_default (same_cell (g c) D) (f c) (point c m)
  row_drawn (always D) g c m = point c m
  row_drawn (draw Drawn) g c m = point c m
  row_drawn at_once g c m = point c m

module _ (Q : List ℕ → Data → Type 0) (f : Cell → Data) (M : Cell → Type 0) (point : (k : List ℕ) (c : Cell) → M c → Q k (f c)) where
  members_drawn : (es : Entries) → AllEntries M es → EachMember Q (members_tree f es)
  members_drawn no_entries m = tt
  members_drawn (entry k c es) m = (point k c m.0, members_drawn es m.1)

  mapping_drawn : (A : Entries → Type 0) (c : Cell) → IsMapping (λ es. A es × AllEntries M es) c → InObject Q (Some (members_tree f (entries_of c)))
  mapping_drawn A (mapping es) m = members_drawn es m.1
  mapping_drawn A _ m = absurd m

-- a word of none of the cases
other_words : (cases : Cases) (word : Option (List ℕ)) (w : List ℕ) (d : Data) → word ≡ Some w → is_among w (words cases) ≡ false → CasesDrawNothing cases word d
other_words no_cases word w d is new = tt
other_words (case v rows o cases) word w d is new = (
  λ also. absurd (false≢true (sym new ∙ subst (λ u. is_among u (v ∷ words cases) ≡ true) (same_Some v w (sym also ∙ is)) (is_among_here v (words cases)))),
  other_words cases word w d is (later (is_among w (words cases)) refl),
)
  where
    later : (b : Bool) → is_among w (words cases) ≡ b → is_among w (words cases) ≡ false
    later true same = absurd (false≢true (sym new ∙ is_among_later w v (words cases) same))
    later false apart = apart

-- a word of the cases, and of its case the rows draw nothing
record IsCaseDrawn (cases : Cases) (word : Option (List ℕ)) (d : Data) : Type 0 where
  is_word : List ℕ
  is : word ≡ Some is_word
  known : is_among is_word (words cases) ≡ true
  nothing : CasesDrawNothing cases word d

choice_drawn : (cases : Cases) (implied : List ℕ) → ((n : ℕ) (c : Cell) → CaseMeets proper_demand cases n c → CasesDrawNothing cases (tag_word (Some implied) (object (case_tree cases n c))) (object (case_tree cases n c)))
    → (x : Cell) → IsChoice (CaseMeets proper_demand cases) x → CasesDrawNothing cases (tag_word (Some implied) (object (case_tree cases (which x) (chosen x)))) (object (case_tree cases (which x) (chosen x)))
choice_drawn cases implied point (choice n c) m = point n c m
choice_drawn cases implied point _ m = absurd m

-- ---- the written tree

mutual
  pub written_drawn : (K : Kind) → IsLawful K → (c : Cell) → IsProper K c → NothingDrawn K (tree K c)
  written_drawn (scalar s) laws c m = tt
  written_drawn (list K) laws c m = sequence_drawn (NothingDrawn K) (tree K) (IsProper K) (written_drawn K laws) c m
  written_drawn (map K) laws c m = mapping_drawn (λ k. NothingDrawn K) (tree K) (IsProper K) (λ k. written_drawn K laws) _ c m
  written_drawn (values K) laws c m = sequence_drawn (NothingDrawn K) (tree K) (IsProper K) (written_drawn K laws) c m
  written_drawn (table rows o) laws (fields cs other) m = rows_drawn rows laws cs other (λ k h. get-may_stand o (keys rows) k other h m.1) m.0
  written_drawn (table rows o) laws _ m = absurd m
  written_drawn (tagged cases) laws (choice n c) m = (case_drawn cases laws None n c m).nothing
  written_drawn (tagged cases) laws _ m = absurd m
  written_drawn (tagged_map cases fallback) laws c m =
      mapping_drawn (λ k e. CasesDrawNothing cases (tag_word (Some (word_at k (words cases) fallback)) e) e)
      (λ x. object (case_tree cases (which x) (chosen x))) (IsChoice (CaseMeets proper_demand cases))
      (λ k x h. choice_drawn cases (word_at k (words cases) fallback) (λ n y p. (case_drawn cases laws (Some (word_at k (words cases) fallback)) n y p).nothing) x h) _ c m

  rows_drawn : (rows : Rows) → RowsLawful rows → (cs : Cells) (ms : Members) → Lacks (keys rows) ms → RowsMeet proper_demand rows cs → RowsDrawNothing rows (object (rows_tree rows cs ms))
  rows_drawn no_rows laws cs ms free m = tt
  rows_drawn (row k r K rows) laws no_cells ms free m = absurd m
  rows_drawn (row k r K rows) laws (cell c cs) ms free m =
      let o = row_tree r (tree K) (norm K) c in (
        subst (RowHolds r (NothingDrawn K)) (sym (found k o rows cs ms laws.0 free)) (row_drawn (NothingDrawn K) (tree K) (IsProper K) (written_drawn K laws.2) r (norm K) c m.0),
        rows_drawn rows laws.3 cs (put_given k o ms) (free_later k o rows cs ms laws.0 free) m.1,
      )

  case_drawn : (cases : Cases) → CasesLawful cases → (implied : Option (List ℕ)) (n : ℕ) (c : Cell) → CaseMeets proper_demand cases n c
      → IsCaseDrawn cases (tag_word implied (object (case_tree cases n c))) (object (case_tree cases n c))
  case_drawn no_cases laws implied n c m = absurd m
  case_drawn (case w rows o cases) laws implied zero (fields cs other) m =
      let d : Data = object (rows_tree rows cs (put tag (string w) other)) in
      let is : tag_word implied d ≡ Some w = ap (word_or implied) (tag_found rows cs other (string w) laws.1) in
      record {
        is_word = w;
        is = is;
        known = is_among_here w (words cases);
        nothing = (λ same. rows_drawn rows laws.3 cs (put tag (string w) other) (free_tagged o (keys rows) other (string w) laws.1 m.1) m.0, other_words cases (tag_word implied d) w d is laws.0);
      }
  case_drawn (case w rows o cases) laws implied zero _ m = absurd m
  case_drawn (case w rows o cases) laws implied (suc n) c m =
      let rest = case_drawn cases laws.4 implied n c m in
      record {
        is_word = rest.is_word;
        is = rest.is;
        known = is_among_later rest.is_word w (words cases) rest.known;
        nothing = (λ same. absurd (false≢true (sym laws.0 ∙ subst (λ u. is_among u (words cases) ≡ true) (same_Some rest.is_word w (sym rest.is ∙ same)) rest.known)), rest.nothing);
      }
