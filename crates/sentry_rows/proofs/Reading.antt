-- From the rows that a reader has read to the table.
use Rattle.std.proofs.Common.{◌≡◌, ◌⊎◌, ℕ, List, [], ◌∷◌, ◌++◌, Some, None, Result, Ok, Err, inl, inr, refl, sym, ap, subst, ◌∙◌, true}
use Rattle.std.specs.Prelude.{is_some, IfOk, IfErr}
use Rattle.serde_json.specs.Data.{Data, Members, no_members}
use Rattle.serde_json.specs.Find.{as_object, get}
use Rattle.sentry_tables.specs.Cell.{Cell, Cells, no_cells, cell, fields}
use Rattle.sentry_tables.specs.Fields.{Field, rows_of, cells_by, table_of, fields_by}
use Rattle.sentry_tables.specs.Kind.{Rule, must, may, may_null, default, always, Kind, Rows, Other, ignored, kept, table, keys, others}
use Rattle.sentry_tables.specs.Shows.{Shows, RowShows, RowsShow, AreFields, members_in}
use Rattle.sentry_tables.specs.Reading.{Only, Shown, RowShown, RowRefused, Reads, ReadsRow, Refused, RowShownAt, RowRefusedAt, ReadsAt, ReadsRowAt, ShownAt, RefusedAt}
use Rattle.sentry_tables.specs.declared.error.TreeError.{TreeError}
use Rattle.sentry_tables.specs.declared.error.TreeError.TheVariants.{Misfit, Memory}
use Rattle.sentry_json.specs.Nodes.{object_data}
use Rattle.sentry_json.specs.Keys.{beside}
use Rattle.sentry_rows.specs.declared.reader.Reader.{Reader}
use Rattle.sentry_rows.specs.Fields.{Keeps, Ends, ReadsField, ReadsFields, ReadsOthers, ReadsKept, ReadsFieldAt, ReadsFieldsAt, read_of}
use Rattle.sentry_rows.proofs.RowLemmas.{must_missing_at, must_read_at, default_read, default_read_at}
use Rattle.sentry_rows.proofs.Answering.{shows_table_at, RowsShownAt, shown_now, refused_now}

memory_alone : Misfit ≡ Memory → ⊥
memory_alone e = absurd cc

-- whatever node holds the tree
module _ {N : Type 0} (data_of : N → Data) where
  refused_err : {A : Type 0} (key : List ℕ) (r : Rule) (K : Kind) (f : A → Cell) (d : Data) (read : Result A TreeError) → ReadsRow key r K f d read → read ≡ Err Misfit → RowRefused key r K d
  refused_err key r K f d read h is = subst (λ x. ReadsRow key r K f d x) is h

  -- a row that was read and kept
  pub field_kept : {A : Type 0} (key : List ℕ) (r : Rule) (K : Kind) (f : A → Cell) (read : Result A TreeError) (v : A) (a b : Reader N) → ReadsRow key r K f (read_of data_of a) read → Keeps read v a b → ReadsField data_of key r K (f v) a b
  unfolding Keeps ReadsField
  field_kept key r K f read v a b h k = (
    k.0,
    λ none. let p = k.1 none in (p.0, subst (λ x. ReadsRow key r K f (read_of data_of a) x) p.1 h),
    λ misfit. elim (k.2 Misfit misfit) [ inl early ↦ inl early | inr here ↦ inr (refused_err key r K f (read_of data_of a) read h here) ],
  )

  -- a row whose value stood ready
  pub field_ready : (key : List ℕ) (r : Rule) (K : Kind) (c : Cell) (a : Reader N) → RowShown key r K (read_of data_of a) c → ReadsField data_of key r K c a a
  unfolding ReadsField
  field_ready key r K c a shown = (refl, λ none. (none, shown), λ misfit. inl misfit)

  -- a row that was refused, where any value may stand in
  pub field_failed : {A : Type 0} (key : List ℕ) (r : Rule) (K : Kind) (c : Cell) (e : TreeError) (v : A) (a b : Reader N) → Only e (RowRefused key r K (read_of data_of a)) → Keeps (Err e) v a b → ReadsField data_of key r K c a b
  unfolding Keeps ReadsField
  field_failed key r K c e v a b refused k = (
    k.0,
    λ none. let p = k.1 none in absurd cc,
    λ misfit. elim (k.2 Misfit misfit) [ inl early ↦ inl early | inr here ↦ inr (subst (λ x. IfErr x (λ y. Only y (RowRefused key r K (read_of data_of a)))) here refused) ],
  )

  -- what reads alike, and differs in what is written
  pub field_always : (key : List ℕ) (D : Cell) (K : Kind) (c : Cell) (a b : Reader N) → ReadsField data_of key (default D) K c a b → ReadsField data_of key (always D) K c a b
  unfolding ReadsField RowShown RowRefused
  field_always key D K c a b h = h

  pub field_or_null : (key : List ℕ) (K : Kind) (c : Cell) (a b : Reader N) → ReadsField data_of key may K c a b → ReadsField data_of key may_null K c a b
  unfolding ReadsField RowShown RowRefused
  field_or_null key K c a b h = h

  -- what stands at the key of a row with a default was read and kept
  pub default_kept : {A : Type 0} (key : List ℕ) (D : Cell) (K : Kind) (f : A → Cell) (e : Data) (read : Result A TreeError) (v : A) (a b : Reader N) → Reads K f e read → get key (read_of data_of a) ≡ Some e → Keeps read v a b → ReadsField data_of key (default D) K (f v) a b
  default_kept key D K f e read v a b h is k = field_kept key (default D) K f read v a b (default_read key K D f (read_of data_of a) e read is h) k

  same_tree : (a b : Reader N) → b.object ≡ a.object → read_of data_of b ≡ read_of data_of a
  same_tree a b e = ap (object_data data_of) e

  first_refused : {A : Type 0} (f : Field A) (fs : List (Field A)) (now : Cell) (d : Data) → ((c : Cell) → RowShows f.rule (Shows f.kind now) now (get f.key d) c → ⊥) → (cs : Cells) → RowsShow (rows_of (f ∷ fs)) now d cs → ⊥
  first_refused f fs now d none no_cells h = h
  first_refused f fs now d none (cell c cs) h = none c h.0

  rest_refused : {A : Type 0} (f : Field A) (fs : List (Field A)) (now : Cell) (d : Data) → ((cs : Cells) → RowsShow (rows_of fs) now d cs → ⊥) → (cs : Cells) → RowsShow (rows_of (f ∷ fs)) now d cs → ⊥
  rest_refused f fs now d none no_cells h = h
  rest_refused f fs now d none (cell c cs) h = none cs h.1

  fields_refused : (now : Cell) (rows : Rows) (d : Data) (P : Members → Type 0) (c : Cell) → ((cs : Cells) → RowsShow rows now d cs → ⊥) → AreFields (λ cs other. RowsShow rows now d cs × P other) c → ⊥
  fields_refused now rows d P (fields cs other) refuse h = refuse cs h.0
  fields_refused now rows d P _ refuse h = h

  is_object : (a : Reader N) (d : Data) → read_of data_of a ≡ d → is_some (as_object d) ≡ true
  is_object a d is = ap (λ t. is_some (as_object t)) (sym is)

  -- ---- what is kept

  module _ {A : Type 0} (read : Result A TreeError) (v : A) (a b : Reader N) where
    pub kept_value : read ≡ Ok v → Keeps read v a a
    unfolding Keeps
    kept_value is = (refl, λ none. (none, is), λ e failed. inl failed, λ e first. first)

    pub kept_failure : (e : TreeError) → read ≡ Err e → a.failed ≡ None → b.object ≡ a.object → b.failed ≡ Some e → Keeps read v a b
    unfolding Keeps
    kept_failure e is none tree failed = (tree, λ none. absurd cc, λ x at. inr cc, λ x first. absurd cc)

    pub kept_earlier : (x : TreeError) → a.failed ≡ Some x → Keeps read v a a
    unfolding Keeps
    kept_earlier x failed = (refl, λ none. absurd cc, λ e at. inl at, λ e first. first)

  -- ---- with members of other keys

  others_stay : (names : List (List ℕ)) (others : Members) (a b : Reader N) → ReadsOthers data_of names others a b → b.failed ≡ None → (a.failed ≡ None) × (others ≡ beside names (members_in (read_of data_of a)))
  unfolding ReadsOthers
  others_stay names others a b h none = h.1 none

  others_fit : (names : List (List ℕ)) (others : Members) (a b : Reader N) → ReadsOthers data_of names others a b → b.failed ≡ Some Misfit → a.failed ≡ Some Misfit
  unfolding ReadsOthers
  others_fit names others a b h misfit = h.2 misfit

  fields_tree : {A : Type 0} (fs : List (Field A)) (v : A) (a z : Reader N) → ReadsFields (ReadsField data_of) fs v a z → read_of data_of z ≡ read_of data_of a
  unfolding ReadsField
  fields_tree [] v a z same = ap (read_of data_of) (sym same)
  fields_tree (f ∷ fs) v a z h = fields_tree fs v h.0 z h.2 ∙ same_tree a h.0 h.1.0

  pub others_kept : {M : Type 0} (names : List (List ℕ)) (read : Result M TreeError) (f : M → Members) (v : M) (a b : Reader N) → IfOk read (λ m. f m ≡ beside names (members_in (read_of data_of a))) → IfErr read (λ e. e ≡ Memory) → Keeps read v a b → ReadsOthers data_of names (f v) a b
  unfolding Keeps ReadsOthers
  others_kept names read f v a b ok err k = (
    k.0,
    λ none. let p = k.1 none in (p.0, subst (λ x. IfOk x (λ m. f m ≡ beside names (members_in (read_of data_of a)))) p.1 ok),
    λ misfit. elim (k.2 Misfit misfit) [ inl early ↦ early | inr here ↦ absurd (memory_alone (subst (λ x. IfErr x (λ e. e ≡ Memory)) here err)) ],
  )

  -- ---- at a moment

  module _ (now : Cell) where
    refused_err_at : {A : Type 0} (key : List ℕ) (r : Rule) (K : Kind) (f : A → Cell) (d : Data) (read : Result A TreeError) → ReadsRowAt now key r K f d read → read ≡ Err Misfit → RowRefusedAt now key r K d
    refused_err_at key r K f d read h is = subst (λ x. ReadsRowAt now key r K f d x) is h

    pub field_kept_at : {A : Type 0} (key : List ℕ) (r : Rule) (K : Kind) (f : A → Cell) (read : Result A TreeError) (v : A) (a b : Reader N) → ReadsRowAt now key r K f (read_of data_of a) read → Keeps read v a b → ReadsFieldAt data_of now key r K (f v) a b
    unfolding Keeps ReadsFieldAt
    field_kept_at key r K f read v a b h k = (
      k.0,
      λ none. let p = k.1 none in (p.0, subst (λ x. ReadsRowAt now key r K f (read_of data_of a) x) p.1 h),
      λ misfit. elim (k.2 Misfit misfit) [ inl early ↦ inl early | inr here ↦ inr (refused_err_at key r K f (read_of data_of a) read h here) ],
    )

    pub field_ready_at : (key : List ℕ) (r : Rule) (K : Kind) (c : Cell) (a : Reader N) → RowShownAt now key r K (read_of data_of a) c → ReadsFieldAt data_of now key r K c a a
    unfolding ReadsFieldAt
    field_ready_at key r K c a shown = (refl, λ none. (none, shown), λ misfit. inl misfit)

    -- one that had to be there, and is not
    pub missing_kept_at : {A : Type 0} (key : List ℕ) (K : Kind) (f : A → Cell) (v : A) (a b : Reader N) → get key (read_of data_of a) ≡ None → Keeps (Err Misfit) v a b → ReadsFieldAt data_of now key must K (f v) a b
    missing_kept_at key K f v a b is k = field_kept_at key must K f (Err Misfit) v a b (must_missing_at now key K (read_of data_of a) is) k

    -- what stands at the key of a row was read and kept
    pub must_kept_at : {A : Type 0} (key : List ℕ) (K : Kind) (f : A → Cell) (e : Data) (read : Result A TreeError) (v : A) (a b : Reader N) → ReadsAt now K f e read → get key (read_of data_of a) ≡ Some e → Keeps read v a b → ReadsFieldAt data_of now key must K (f v) a b
    must_kept_at key K f e read v a b h is k = field_kept_at key must K f read v a b (must_read_at now key K f (read_of data_of a) e read is h) k

    pub default_kept_at : {A : Type 0} (key : List ℕ) (D : Cell) (K : Kind) (f : A → Cell) (e : Data) (read : Result A TreeError) (v : A) (a b : Reader N) → ReadsAt now K f e read → get key (read_of data_of a) ≡ Some e → Keeps read v a b → ReadsFieldAt data_of now key (default D) K (f v) a b
    default_kept_at key D K f e read v a b h is k = field_kept_at key (default D) K f read v a b (default_read_at now key K D f (read_of data_of a) e read is h) k

    -- what is read at every moment is read now
    field_now : (key : List ℕ) (r : Rule) (K : Kind) (c : Cell) (a b : Reader N) → ReadsField data_of key r K c a b → ReadsFieldAt data_of now key r K c a b
    unfolding ReadsField ReadsFieldAt
    field_now key r K c a b h = (h.0, λ none. let p = h.1 none in (p.0, shown_now now key r K (read_of data_of a) c p.1), λ misfit. elim (h.2 misfit) [ inl early ↦ inl early | inr here ↦ inr (refused_now now key r K (read_of data_of a) here) ])

    row_now : (key : List ℕ) (r : Rule) (K : Kind) (c : Cell) (a b : Reader N) → ReadsField data_of key r K c a b ⊎ ReadsFieldAt data_of now key r K c a b → ReadsFieldAt data_of now key r K c a b
    row_now key r K c a b h = elim h [ inl ever ↦ field_now key r K c a b ever | inr here ↦ here ]

    pub fields_now : {A : Type 0} (fs : List (Field A)) (v : A) (a z : Reader N) → ReadsFields (ReadsField data_of) fs v a z → ReadsFieldsAt (ReadsField data_of) (ReadsFieldAt data_of) now fs v a z
    fields_now [] v a z same = same
    fields_now (f ∷ fs) v a z h = (h.0, inl h.1, fields_now fs v h.0 z h.2)

    rows_shown_at : {A : Type 0} (fs : List (Field A)) (v : A) (a z : Reader N) → ReadsFieldsAt (ReadsField data_of) (ReadsFieldAt data_of) now fs v a z → z.failed ≡ None → (a.failed ≡ None) × RowsShownAt now (rows_of fs) (read_of data_of a) (cells_by fs v)
    unfolding ReadsFieldAt
    rows_shown_at [] v a z same none = (ap (λ s. s.failed) same ∙ none, tt)
    rows_shown_at (f ∷ fs) v a z h none =
        let rest = rows_shown_at fs v h.0 z h.2 none in
        let row = row_now f.key f.rule f.kind (f.part v) a h.0 h.1 in
        let first = row.1 rest.0 in
        (first.0, (first.1, subst (λ d. RowsShownAt now (rows_of fs) d (cells_by fs v)) (same_tree a h.0 row.0) rest.1))

    rows_refused_at : {A : Type 0} (fs : List (Field A)) (v : A) (a z : Reader N) → ReadsFieldsAt (ReadsField data_of) (ReadsFieldAt data_of) now fs v a z → z.failed ≡ Some Misfit → (a.failed ≡ Some Misfit) ⊎ ((cs : Cells) → RowsShow (rows_of fs) now (read_of data_of a) cs → ⊥)
    unfolding ReadsFieldAt RowRefusedAt
    rows_refused_at [] v a z same misfit = inl (ap (λ s. s.failed) same ∙ misfit)
    rows_refused_at (f ∷ fs) v a z h misfit =
        let row = row_now f.key f.rule f.kind (f.part v) a h.0 h.1 in
        elim (rows_refused_at fs v h.0 z h.2 misfit) [
          | inl early ↦ elim (row.2 early) [ inl first ↦ inl first | inr here ↦ inr (first_refused f fs now (read_of data_of a) here) ]
          | inr later ↦ inr (rest_refused f fs now (read_of data_of a) (subst (λ d. (cs : Cells) → RowsShow (rows_of fs) now d cs → ⊥) (same_tree a h.0 row.0) later))
        ]

    misfit_at : {A : Type 0} (fs : List (Field A)) (o : Other) (v : A) (a z : Reader N) → ReadsFieldsAt (ReadsField data_of) (ReadsFieldAt data_of) now fs v a z → a.failed ≡ None → z.failed ≡ Some Misfit → RefusedAt now (table (rows_of fs) o) (read_of data_of a)
    unfolding RefusedAt
    misfit_at fs o v a z h none misfit c shown =
        elim (rows_refused_at fs v a z h misfit) [
          | inl early ↦ cc
          | inr refused ↦ fields_refused now (rows_of fs) (read_of data_of a) _ c refused shown.1
        ]

    -- the rows were read from a to m, and members of other keys from there to z
    answered_at : {A : Type 0} (fs : List (Field A)) (o : Other) (others_of : A → Members) (v : A) (a m z : Reader N) (d : Data) (r : Result A TreeError) → read_of data_of a ≡ d → ReadsFieldsAt (ReadsField data_of) (ReadsFieldAt data_of) now fs v a m → a.failed ≡ None
        → (z.failed ≡ None → (m.failed ≡ None) × (others_of v ≡ others o (keys (rows_of fs)) (members_in d))) → (z.failed ≡ Some Misfit → m.failed ≡ Some Misfit) → Ends z v r → ReadsAt now (table (rows_of fs) o) (λ w. fields (cells_by fs w) (others_of w)) d r
    answered_at fs o others_of v a m z d (Ok w) is h none stay fit ends =
        let rest = stay ends.0 in
        let rows = subst (λ t. RowsShownAt now (rows_of fs) t (cells_by fs v)) is (rows_shown_at fs v a m h rest.0).1 in
        subst (λ u. ShownAt now (table (rows_of fs) o) d (fields (cells_by fs u) (others_of u))) (sym ends.1) (shows_table_at now (rows_of fs) o d (cells_by fs v) (others_of v) (is_object a d is) rest.1 rows)
    answered_at fs o others_of v a m z d (Err Misfit) is h none stay fit ends = subst (RefusedAt now (table (rows_of fs) o)) is (misfit_at fs o v a m h none (fit ends))
    answered_at fs o others_of v a m z d (Err Memory) is h none stay fit ends = tt

    pub table_ends_at : {A : Type 0} (fs : List (Field A)) (v : A) (a z : Reader N) (d : Data) (r : Result A TreeError) → read_of data_of a ≡ d → ReadsFieldsAt (ReadsField data_of) (ReadsFieldAt data_of) now fs v a z → a.failed ≡ None → Ends z v r → ReadsAt now (table_of fs) (fields_by fs) d r
    table_ends_at fs v a z d r is h none ends = answered_at fs ignored (λ w. no_members) v a z z d r is h none (λ end. (end, refl)) (λ end. end) ends

  -- ---- at every moment

  every : {A : Type 0} (K : Kind) (f : A → Cell) (d : Data) (r : Result A TreeError) → ((now : Cell) → ReadsAt now K f d r) → Reads K f d r
  unfolding Shown ShownAt Refused RefusedAt
  every K f d (Ok v) h = h
  every K f d (Err Misfit) h = h
  every K f d (Err Memory) h = tt

  pub table_ends : {A : Type 0} (fs : List (Field A)) (v : A) (a z : Reader N) (d : Data) (r : Result A TreeError) → read_of data_of a ≡ d → ReadsFields (ReadsField data_of) fs v a z → a.failed ≡ None → Ends z v r → Reads (table_of fs) (fields_by fs) d r
  table_ends fs v a z d r is h none ends = every (table_of fs) (fields_by fs) d r (λ now. table_ends_at now fs v a z d r is (fields_now now fs v a z h) none ends)

  pub kept_ends : {A : Type 0} (fs : List (Field A)) (reserved : List (List ℕ)) (others_of : A → Members) (v : A) (a z : Reader N) (d : Data) (r : Result A TreeError) → read_of data_of a ≡ d → ReadsKept (ReadsField data_of) (ReadsOthers data_of) fs (reserved ++ keys (rows_of fs)) v (others_of v) a z → a.failed ≡ None → Ends z v r
      → Reads (table (rows_of fs) (kept reserved)) (λ w. fields (cells_by fs w) (others_of w)) d r
  kept_ends fs reserved others_of v a z d r is h none ends =
      let names = reserved ++ keys (rows_of fs) in
      every (table (rows_of fs) (kept reserved)) (λ w. fields (cells_by fs w) (others_of w)) d r (λ now.
      answered_at now fs (kept reserved) others_of v a h.0 z d r is (fields_now now fs v a h.0 h.1) none
      (λ end. let rest = others_stay names (others_of v) h.0 z h.2 end in (rest.0, rest.1 ∙ ap (λ t. beside names (members_in t)) (fields_tree fs v a h.0 h.1 ∙ is)))
      (others_fit names (others_of v) h.0 z h.2) ends)
