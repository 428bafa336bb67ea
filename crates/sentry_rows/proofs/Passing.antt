-- Rows that were written while they were read, one after the other.
use Rattle.std.proofs.Common.{◌≡◌, ◌⊎◌, ℕ, List, [], ◌∷◌, Option, Some, None, Result, Ok, Err, inl, inr, refl, sym, ap, subst, ◌∙◌, true}
use Rattle.json.specs.Token.{Token}
use Rattle.json.specs.Written.{Written, Writes}
use Rattle.serde_json.specs.Data.{Data, object, Members, no_members}
use Rattle.sentry_tables.specs.Cell.{Cell, Cells, fields}
use Rattle.sentry_tables.specs.Fields.{Field, field, rows_of, cells_by}
use Rattle.sentry_tables.specs.Kind.{Rule, Kind, Rows, row, ignored, table, keys}
use Rattle.sentry_tables.specs.Reading.{Only, Shown, Refused, RowRefused, ShownAt, RefusedAt}
use Rattle.sentry_tables.specs.Norm.{norm}
use Rattle.sentry_tables.specs.Written.{tree, row_tree, given, rows_given, in_order}
use Rattle.sentry_tables.specs.Writes.{written, WritesTree, WritesMembers}
use Rattle.sentry_tables.specs.declared.error.TreeError.{TreeError}
use Rattle.sentry_tables.specs.declared.error.TreeError.TheVariants.{Misfit, Memory}
use Rattle.sentry_tables.proofs.Given.{rows_tree_put, rows_given_ordered, put_all_ordered}
use Rattle.sentry_tables.proofs.Tokens.{object_wrote}
use Rattle.sentry_writing.specs.Given.{both, row_given}
use Rattle.sentry_rows.specs.declared.passer.Passer.{Passer}
use Rattle.sentry_rows.specs.declared.reader.Reader.{Reader}
use Rattle.sentry_tables.specs.Continued.{no_members_wrote}
use Rattle.sentry_writing.specs.Joined.{members_join}
use Rattle.sentry_rows.specs.Fields.{Keeps, ReadsField, ReadsFields, ReadsFieldAt, ReadsFieldsAt, read_of}
use Rattle.sentry_rows.specs.Passed.{Gives, GoesOn, RowPassed, PassesRow, RowPassedAt, PassesRowAt, PassesField, PassesFieldAt, RowsPassed, RowsPassedAt}
use Rattle.sentry_tables.specs.Passed.{Passed, PassedAt}
use Rattle.sentry_rows.proofs.Reading.{field_failed, table_ends, table_ends_at}

given_both : (k : List ℕ) (o : Option Data) (ms : Members) → both (given k o no_members) ms ≡ given k o ms
given_both k None ms = refl
given_both k (Some d) ms = refl

row_then : (k : List ℕ) (r : Rule) (K : Kind) (c : Cell) (ms : Members) → both (row_given k r K c) ms ≡ given k (row_tree r (tree K) (norm K) c) ms
unfolding row_given written
row_then k r K c ms = given_both k (row_tree r (tree K) (norm K) c) ms

abbrev RowReads : Type 0 → Type 1
RowReads N = List ℕ → Rule → Kind → Cell → Reader N → Reader N → Type 0

-- ---- at every moment or now, as one relation

module _ {S : Type 0} (Takes : List ℕ → Rule → Kind → Cell → S → S → Type 0) (TakesAt : Cell → List ℕ → Rule → Kind → Cell → S → S → Type 0) (now : Cell) where
  abbrev pub Either : List ℕ → Rule → Kind → Cell → S → S → Type 0
  Either key r K c a b = Takes key r K c a b ⊎ TakesAt now key r K c a b

  as_fields : {A : Type 0} (fs : List (Field A)) (v : A) (a z : S) → ReadsFieldsAt Takes TakesAt now fs v a z → ReadsFields Either fs v a z
  as_fields [] v a z h = h
  as_fields (f ∷ fs) v a z h = (h.0, h.1, as_fields fs v h.0 z h.2)

  as_fields_at : {A : Type 0} (fs : List (Field A)) (v : A) (a z : S) → ReadsFields Either fs v a z → ReadsFieldsAt Takes TakesAt now fs v a z
  as_fields_at [] v a z h = h
  as_fields_at (f ∷ fs) v a z h = (h.0, h.1, as_fields_at fs v h.0 z h.2)

module _ {N : Type 0} (data_of : N → Data) where
  -- a row that was written, or refused, and what came of it kept
  pub row_kept : (key : List ℕ) (r : Rule) (K : Kind) (c : Cell) (passed : Result (Unit {0}) TreeError) (u : Unit {0}) (a b : Passer N) → PassesRow key r K (read_of data_of a.from) passed a.out.now b.out.now → b.out.ghost_name ≡ a.out.ghost_name → Keeps passed u a.from b.from → PassesField data_of key r K c a b
  unfolding PassesField RowPassed ReadsField Keeps
  row_kept key r K c (Ok v) u a b x name k = (x.0, (k.0, (λ none. ((k.1 none).0, x.1)), λ misfit. elim (k.2 Misfit misfit) [ inl early ↦ inl early | inr here ↦ absurd cc ]), λ none. (name, x.2))
  row_kept key r K c (Err e) u a b refused name k = (c, field_failed data_of key r K c e u a.from b.from refused k, λ none. let p = k.1 none in absurd cc)

  pub row_kept_at : (now : Cell) (key : List ℕ) (r : Rule) (K : Kind) (c : Cell) (passed : Result (Unit {0}) TreeError) (u : Unit {0}) (a b : Passer N) → PassesRowAt now key r K (read_of data_of a.from) passed a.out.now b.out.now → b.out.ghost_name ≡ a.out.ghost_name → Keeps passed u a.from b.from → PassesFieldAt data_of now key r K c a b
  unfolding PassesFieldAt RowPassedAt ReadsFieldAt Keeps
  row_kept_at now key r K c (Ok v) u a b x name k = (x.0, (k.0, (λ none. ((k.1 none).0, x.1)), λ misfit. elim (k.2 Misfit misfit) [ inl early ↦ inl early | inr here ↦ absurd cc ]), λ none. (name, x.2))
  row_kept_at now key r K c (Err Misfit) u a b refused name k = (c, (k.0, (λ none. let p = k.1 none in absurd cc), λ misfit. elim (k.2 Misfit misfit) [ inl early ↦ inl early | inr here ↦ inr refused ]), λ none. let p = k.1 none in absurd cc)
  row_kept_at now key r K c (Err Memory) u a b refused name k = (c, (k.0, (λ none. let p = k.1 none in absurd cc), λ misfit. elim (k.2 Misfit misfit) [ inl early ↦ inl early | inr here ↦ absurd cc ]), λ none. let p = k.1 none in absurd cc)

  -- a row that was read, and then written
  pub row_given_as : (key : List ℕ) (r : Rule) (K : Kind) (c : Cell) (ms : Members) (given : Result (Unit {0}) TreeError) (u : Unit {0}) (a b : Passer N) (m : Reader N) → ReadsField data_of key r K c a.from m → ms ≡ row_given key r K c → Gives ms given a.out.now b.out.now → b.out.ghost_name ≡ a.out.ghost_name → Keeps given u m b.from → PassesField data_of key r K c a b
  unfolding PassesField ReadsField Keeps
  row_given_as key r K c ms (Ok v) u a b m x same wrote name k = (c, (k.0 ∙ x.0, (λ none. x.1 (k.1 none).0), λ misfit. elim (k.2 Misfit misfit) [ inl early ↦ x.2 early | inr here ↦ absurd cc ]), λ none. (name, subst (λ n. WritesMembers n a.out.now b.out.now) same wrote))
  row_given_as key r K c ms (Err e) u a b m x same wrote name k = (c, (k.0 ∙ x.0, (λ none. let p = k.1 none in absurd cc), λ misfit. elim (k.2 Misfit misfit) [ inl early ↦ x.2 early | inr here ↦ absurd cc ]), λ none. let p = k.1 none in absurd cc)

  pub row_given_at : (now : Cell) (key : List ℕ) (r : Rule) (K : Kind) (c : Cell) (ms : Members) (given : Result (Unit {0}) TreeError) (u : Unit {0}) (a b : Passer N) (m : Reader N) → ReadsFieldAt data_of now key r K c a.from m → ms ≡ row_given key r K c → Gives ms given a.out.now b.out.now → b.out.ghost_name ≡ a.out.ghost_name → Keeps given u m b.from → PassesFieldAt data_of now key r K c a b
  unfolding PassesFieldAt ReadsFieldAt Keeps
  row_given_at now key r K c ms (Ok v) u a b m x same wrote name k = (c, (k.0 ∙ x.0, (λ none. x.1 (k.1 none).0), λ misfit. elim (k.2 Misfit misfit) [ inl early ↦ x.2 early | inr here ↦ absurd cc ]), λ none. (name, subst (λ n. WritesMembers n a.out.now b.out.now) same wrote))
  row_given_at now key r K c ms (Err e) u a b m x same wrote name k = (c, (k.0 ∙ x.0, (λ none. let p = k.1 none in absurd cc), λ misfit. elim (k.2 Misfit misfit) [ inl early ↦ x.2 early | inr here ↦ absurd cc ]), λ none. let p = k.1 none in absurd cc)

  -- What is read of a row by Row, and written while nothing fails.
  abbrev RowGives : RowReads N → List ℕ → Rule → Kind → Passer N → Passer N → Type 0
  RowGives Row key r K a b = (x : Cell) × Row key r K x a.from b.from × (b.from.failed ≡ None → GoesOn a b (row_given key r K x))

  -- Lines of these rows, which hold what was read, were read one after the other, and what they
  -- hold was written.
  abbrev pub Gives1 : RowReads N → Rows → Passer N → Passer N → Type 1
  Gives1 Row rows a z =
      (gs : List (Field (Unit {0}))) × (rows_of gs ≡ rows) × ReadsFields Row gs tt a.from z.from × (z.from.failed ≡ None → GoesOn a z (rows_given (rows_of gs) (cells_by gs tt)))

  module _ (Row : RowReads N) (early : (key : List ℕ) (r : Rule) (K : Kind) (c : Cell) (a b : Reader N) → Row key r K c a b → b.failed ≡ None → a.failed ≡ None) where
    none_before : (gs : List (Field (Unit {0}))) (a z : Reader N) → ReadsFields Row gs tt a z → z.failed ≡ None → a.failed ≡ None
    none_before [] a z same none = ap (λ s. s.failed) same ∙ none
    none_before (g ∷ gs) a z h none = early g.key g.rule g.kind (g.part tt) a h.0 h.1 (none_before gs h.0 z h.2 none)

    given_first : (k : List ℕ) (r : Rule) (K : Kind) (rows : Rows) (a b z : Passer N) → RowGives Row k r K a b → Gives1 Row rows b z → Gives1 Row (row k r K rows) a z
    given_first k r K rows a b z first rest =
        let gs = rest.0 in
        let x = first.0 in (
          field k r K (λ u. x) ∷ gs,
          ap (row k r K) rest.1,
          (b.from, first.1, rest.2),
          λ none.
              let one = first.2 (none_before gs b.from z.from rest.2 none) in
              let more = rest.3 none in (
                more.0 ∙ one.0,
                subst (λ ms. WritesMembers ms a.out.now z.out.now) (row_then k r K x (rows_given (rows_of gs) (cells_by gs tt)))
                    (members_join (row_given k r K x) (rows_given (rows_of gs) (cells_by gs tt)) a.out.now b.out.now z.out.now one.1 more.1),
              ),
        )

    all_given : (Passes : List ℕ → Rule → Kind → Cell → Passer N → Passer N → Type 0) → ((key : List ℕ) (r : Rule) (K : Kind) (c : Cell) (a b : Passer N) → Passes key r K c a b → RowGives Row key r K a b)
        → {A : Type 0} (fs : List (Field A)) (v : A) (a z : Passer N) → ReadsFields Passes fs v a z → Gives1 Row (rows_of fs) a z
    all_given Passes gives [] v a z same = ([], refl, ap (λ p. p.from) same, λ none. subst (λ p. GoesOn a p no_members) same (refl, no_members_wrote a.out.now))
    all_given Passes gives (f ∷ fs) v a z h = given_first f.key f.rule f.kind (rows_of fs) a h.0 z (gives f.key f.rule f.kind (f.part v) a h.0 h.1) (all_given Passes gives fs v h.0 z h.2)

  early : (key : List ℕ) (r : Rule) (K : Kind) (c : Cell) (a b : Reader N) → ReadsField data_of key r K c a b → b.failed ≡ None → a.failed ≡ None
  unfolding ReadsField
  early key r K c a b h none = (h.1 none).0

  early_at : (now : Cell) (key : List ℕ) (r : Rule) (K : Kind) (c : Cell) (a b : Reader N) → ReadsFieldAt data_of now key r K c a b → b.failed ≡ None → a.failed ≡ None
  unfolding ReadsFieldAt
  early_at now key r K c a b h none = (h.1 none).0

  gives : (key : List ℕ) (r : Rule) (K : Kind) (c : Cell) (a b : Passer N) → PassesField data_of key r K c a b → RowGives (ReadsField data_of) key r K a b
  unfolding PassesField
  gives key r K c a b h = h

  gives_at : (now : Cell) (key : List ℕ) (r : Rule) (K : Kind) (c : Cell) (a b : Passer N) → PassesFieldAt data_of now key r K c a b → RowGives (ReadsFieldAt data_of now) key r K a b
  unfolding PassesFieldAt
  gives_at now key r K c a b h = h

  pub rows_passed : {A : Type 0} (fs : List (Field A)) (v : A) (a z : Passer N) → ReadsFields (PassesField data_of) fs v a z → Gives1 (ReadsField data_of) (rows_of fs) a z
  rows_passed fs v a z h = all_given (ReadsField data_of) early (PassesField data_of) gives fs v a z h

  pub rows_passed_at : (now : Cell) {A : Type 0} (fs : List (Field A)) (v : A) (a z : Passer N) → ReadsFieldsAt (PassesField data_of) (PassesFieldAt data_of) now fs v a z → Gives1 (Either (ReadsField data_of) (ReadsFieldAt data_of) now) (rows_of fs) a z
  rows_passed_at now fs v a z h =
      all_given (Either (ReadsField data_of) (ReadsFieldAt data_of) now)
      (λ key r K c x y read. elim read [ inl ever ↦ early key r K c x y ever | inr here ↦ early_at now key r K c x y here ])
      (Either (PassesField data_of) (PassesFieldAt data_of) now)
      (λ key r K c x y passed. elim passed [ inl ever ↦ (let g = gives key r K c x y ever in (g.0, inl g.1, g.2)) | inr here ↦ (let g = gives_at now key r K c x y here in (g.0, inr g.1, g.2)) ])
      fs v a z (as_fields (PassesField data_of) (PassesFieldAt data_of) now fs v a z h)

-- ---- the object of rows in order

given_is : (rows : Rows) (cs : Cells) → in_order (keys rows) ≡ true → object (rows_given rows cs) ≡ written (table rows ignored) (fields cs no_members)
unfolding written
given_is rows cs order = ap object (sym (put_all_ordered (rows_given rows cs) (rows_given_ordered rows cs order)) ∙ sym (rows_tree_put rows cs no_members))

pub table_passed : {E F : Type 0} (rows : Rows) (x d : Data) (a b c e : Written) → in_order (keys rows) ≡ true → x ≡ d → Writes {E = E} (Ok tt) a b Token.begin_object → RowsPassed rows x b c → Writes {E = F} (Ok tt) c e Token.end_object → Passed (table rows ignored) d a e
unfolding RowsPassed Passed
table_passed rows x d a b c e order same begun y z = (fields y.0 no_members, subst (λ t. Shown (table rows ignored) t (fields y.0 no_members)) same y.1, subst (λ t. WritesTree t a e) (given_is rows y.0 order) (object_wrote (rows_given rows y.0) (Ok tt) a b c e begun y.2 z))

pub table_passed_at : {E F : Type 0} (now : Cell) (rows : Rows) (x d : Data) (a b c e : Written) → in_order (keys rows) ≡ true → x ≡ d → Writes {E = E} (Ok tt) a b Token.begin_object → RowsPassedAt now rows x b c → Writes {E = F} (Ok tt) c e Token.end_object → PassedAt now (table rows ignored) d a e
unfolding RowsPassedAt PassedAt
table_passed_at now rows x d a b c e order same begun y z = (fields y.0 no_members, subst (λ t. ShownAt now (table rows ignored) t (fields y.0 no_members)) same y.1, subst (λ t. WritesTree t a e) (given_is rows y.0 order) (object_wrote (rows_given rows y.0) (Ok tt) a b c e begun y.2 z))

-- ---- what the reading of these lines answers

module _ {N : Type 0} (data_of : N → Data) (rows : Rows) (gs : List (Field (Unit {0}))) (same : rows_of gs ≡ rows) (a z : Reader N) (d : Data) (is : read_of data_of a ≡ d) (none : a.failed ≡ None) where
  pub rows_end : ReadsFields (ReadsField data_of) gs tt a z → (old new : Written) → z.failed ≡ None → WritesMembers (rows_given (rows_of gs) (cells_by gs tt)) old new → RowsPassed rows d old new
  unfolding RowsPassed
  rows_end h old new end wrote =
      let shown = table_ends data_of gs tt a z d (Ok tt) is h none (end, refl) in
      subst (λ x. (cs : Cells) × Shown (table x ignored) d (fields cs no_members) × WritesMembers (rows_given x cs) old new) same (cells_by gs tt, shown, wrote)

  pub rows_fail : ReadsFields (ReadsField data_of) gs tt a z → (e : TreeError) → z.failed ≡ Some e → Only e (Refused (table rows ignored) d)
  rows_fail h e end = subst (λ x. Only e (Refused (table x ignored) d)) same (table_ends data_of gs tt a z d (Err e) is h none end)

  -- the same at a moment
  module _ (now : Cell) where
    pub rows_end_at : ReadsFields (Either (ReadsField data_of) (ReadsFieldAt data_of) now) gs tt a z → (old new : Written) → z.failed ≡ None → WritesMembers (rows_given (rows_of gs) (cells_by gs tt)) old new → RowsPassedAt now rows d old new
    unfolding RowsPassedAt
    rows_end_at h old new end wrote =
        let read = as_fields_at (ReadsField data_of) (ReadsFieldAt data_of) now gs tt a z h in
        let shown = table_ends_at data_of now gs tt a z d (Ok tt) is read none (end, refl) in
        subst (λ x. (cs : Cells) × ShownAt now (table x ignored) d (fields cs no_members) × WritesMembers (rows_given x cs) old new) same (cells_by gs tt, shown, wrote)

    pub rows_fail_at : ReadsFields (Either (ReadsField data_of) (ReadsFieldAt data_of) now) gs tt a z → (e : TreeError) → z.failed ≡ Some e → Only e (RefusedAt now (table rows ignored) d)
    rows_fail_at h e end =
        let read = as_fields_at (ReadsField data_of) (ReadsFieldAt data_of) now gs tt a z h in
        subst (λ x. Only e (RefusedAt now (table x ignored) d)) same (table_ends_at data_of now gs tt a z d (Err e) is read none end)

-- ---- what passing these lines answers

module _ {N A : Type 0} (data_of : N → Data) (fs : List (Field A)) (v : A) (a z : Passer N) (none : a.from.failed ≡ None) where
  pub text_passed : ReadsFields (PassesField data_of) fs v a z → z.from.failed ≡ None → (z.out.ghost_name ≡ a.out.ghost_name) × RowsPassed (rows_of fs) (read_of data_of a.from) a.out.now z.out.now
  text_passed h end =
      let p = rows_passed data_of fs v a z h in
      let given = p.3 end in
      (given.0, rows_end data_of (rows_of fs) p.0 p.1 a.from z.from (read_of data_of a.from) refl none p.2 a.out.now z.out.now end given.1)

  pub text_failed : ReadsFields (PassesField data_of) fs v a z → (e : TreeError) → z.from.failed ≡ Some e → Only e (Refused (table (rows_of fs) ignored) (read_of data_of a.from))
  text_failed h e failed =
      let p = rows_passed data_of fs v a z h in
      rows_fail data_of (rows_of fs) p.0 p.1 a.from z.from (read_of data_of a.from) refl none p.2 e failed

  module _ (now : Cell) where
    pub text_passed_at : ReadsFieldsAt (PassesField data_of) (PassesFieldAt data_of) now fs v a z → z.from.failed ≡ None → (z.out.ghost_name ≡ a.out.ghost_name) × RowsPassedAt now (rows_of fs) (read_of data_of a.from) a.out.now z.out.now
    text_passed_at h end =
        let p = rows_passed_at data_of now fs v a z h in
        let given = p.3 end in
        (given.0, rows_end_at data_of (rows_of fs) p.0 p.1 a.from z.from (read_of data_of a.from) refl none now p.2 a.out.now z.out.now end given.1)

    pub text_failed_at : ReadsFieldsAt (PassesField data_of) (PassesFieldAt data_of) now fs v a z → (e : TreeError) → z.from.failed ≡ Some e → Only e (RefusedAt now (table (rows_of fs) ignored) (read_of data_of a.from))
    text_failed_at h e failed =
        let p = rows_passed_at data_of now fs v a z h in
        rows_fail_at data_of (rows_of fs) p.0 p.1 a.from z.from (read_of data_of a.from) refl none now p.2 e failed
