-- From the rows that a copier has copied to the table.
use Rattle.std.specs.declared.alloc.Global.{Global}
use Rattle.std.proofs.Common.{◌≡◌, List, [], ◌∷◌, None, refl, ap, ◌∙◌, subst, true}
use Rattle.std.specs.Prelude.{is_some, Bool}
use Rattle.serde_json.specs.Data.{Members, no_members}
use Rattle.sentry_tables.specs.Cell.{Cell, cell, fields}
use Rattle.sentry_tables.specs.Fields.{Field, rows_of, cells_by, table_of, fields_by}
use Rattle.sentry_tables.specs.Kind.{Rule, must, may, may_null, may_strict, default, always, draw, at_once, Kind, table, Other, ignored}
use Rattle.sentry_tables.specs.Norm.{norm, is_null_of, row_norm, rows_norm}
use Rattle.sentry_tables.specs.Made.{made, row_made}
use Rattle.sentry_tables.specs.declared.way.Way.{Way}
use Rattle.sentry_tables.specs.declared.way.Way.TheVariants.{Same, Normal}
use Rattle.sentry_rows.specs.declared.copier.Copier.{Copier}
use Rattle.sentry_rows.specs.Copied.{copied_by, CopiesField, CopiesFields, CopiesOthers, CopiesKept}

whole_made : (way : Way) (K : Kind) (c : Cell) → made way K c ≡ row_made way must K c
unfolding made row_made
whole_made Same K c = refl
whole_made (Normal alloc) K c = refl

-- a row that always holds a value
pub whole_copied : (K : Kind) (c d : Cell) (a : Copier) → d ≡ made a.way K c → CopiesField must K c d a a
unfolding CopiesField
whole_copied K c d a is = (refl, λ none. (none, is ∙ whole_made a.way K c))

pub row_copied : (r : Rule) (K : Kind) (c d : Cell) (a : Copier) → d ≡ row_made a.way r K c → CopiesField r K c d a a
unfolding CopiesField
row_copied r K c d a is = (refl, λ none. (none, is))

-- one that failed
pub copied_failed : (r : Rule) (K : Kind) (c d : Cell) (a b : Copier) → b.way ≡ a.way → is_some b.failed ≡ true → CopiesField r K c d a b
unfolding CopiesField
copied_failed r K c d a b way failed = (way, λ none. absurd cc)

pub others_copied : (ms ns : Members) (a : Copier) → ns ≡ ms → CopiesOthers ms ns a a
unfolding CopiesOthers
others_copied ms ns a is = (refl, λ none. (none, is))

row_same : (r : Rule) (K : Kind) (c d : Cell) (a b : Copier) → a.way ≡ Same → CopiesField r K c d a b → b.failed ≡ None → (a.failed ≡ None) × (d ≡ c)
unfolding CopiesField row_made
row_same r K c d a b way h none = let p = h.1 none in (p.0, subst (λ w. d ≡ row_made w r K c) way p.1)

by_rule : (r : Rule) (nothing : Cell → Bool) (f : Cell → Cell) (c : Cell) → row_norm (copied_by r) nothing f c ≡ row_norm r nothing f c
by_rule must n f c = refl
by_rule may n f c = refl
by_rule may_null n f c = refl
by_rule may_strict n f c = refl
by_rule (default D) n f c = refl
by_rule (always D) n f c = refl
by_rule (draw Drawn) n f c = refl
by_rule at_once n f c = refl

row_normal : {alloc : Global} (r : Rule) (K : Kind) (c d : Cell) (a b : Copier) → a.way ≡ Normal alloc → CopiesField (copied_by r) K c d a b → b.failed ≡ None → (a.failed ≡ None) × (d ≡ row_norm r (is_null_of K) (norm K) c)
unfolding CopiesField row_made
row_normal r K c d a b way h none = let p = h.1 none in (p.0, subst (λ w. d ≡ row_made w (copied_by r) K c) way p.1 ∙ by_rule r (is_null_of K) (norm K) c)

way_kept : (r : Rule) (K : Kind) (c d : Cell) (a b : Copier) → CopiesField r K c d a b → b.way ≡ a.way
unfolding CopiesField
way_kept r K c d a b h = h.0

rows_same : {A : Type 0} (fs : List (Field A)) (v w : A) (a z : Copier) → a.way ≡ Same → CopiesFields fs v w a z → z.failed ≡ None → (a.failed ≡ None) × (cells_by fs w ≡ cells_by fs v)
rows_same [] v w a z way same none = (ap (λ s. s.failed) same ∙ none, refl)
rows_same (f ∷ fs) v w a z way h none =
    let kept = way_kept (copied_by f.rule) f.kind (f.part v) (f.part w) a h.0 h.1 in
    let rest = rows_same fs v w h.0 z (kept ∙ way) h.2 none in
    let first = row_same (copied_by f.rule) f.kind (f.part v) (f.part w) a h.0 way h.1 rest.0 in
    (first.0, ap (λ c. cell c (cells_by fs w)) first.1 ∙ ap (cell (f.part v)) rest.1)

rows_normal : {alloc : Global} {A : Type 0} (fs : List (Field A)) (v w : A) (a z : Copier) → a.way ≡ Normal alloc → CopiesFields fs v w a z → z.failed ≡ None → (a.failed ≡ None) × (cells_by fs w ≡ rows_norm (rows_of fs) (cells_by fs v))
rows_normal [] v w a z way same none = (ap (λ s. s.failed) same ∙ none, refl)
rows_normal (f ∷ fs) v w a z way h none =
    let kept = way_kept (copied_by f.rule) f.kind (f.part v) (f.part w) a h.0 h.1 in
    let rest = rows_normal fs v w h.0 z (kept ∙ way) h.2 none in
    let first = row_normal f.rule f.kind (f.part v) (f.part w) a h.0 way h.1 rest.0 in
    (first.0, ap (λ c. cell c (cells_by fs w)) first.1 ∙ ap (cell (row_norm f.rule (is_null_of f.kind) (norm f.kind) (f.part v))) rest.1)

by_way : {A : Type 0} (way : Way) (fs : List (Field A)) (o : Other) (v w : A) (ms ns : Members) (a z : Copier) → a.way ≡ way → CopiesFields fs v w a z → z.failed ≡ None → ns ≡ ms
    → fields (cells_by fs w) ns ≡ made way (table (rows_of fs) o) (fields (cells_by fs v) ms)
unfolding made
by_way Same fs o v w ms ns a z way h none others = ap (λ cs. fields cs ns) (rows_same fs v w a z way h none).1 ∙ ap (fields (cells_by fs v)) others
by_way (Normal alloc) fs o v w ms ns a z way h none others = ap (λ cs. fields cs ns) (rows_normal fs v w a z way h none).1 ∙ ap (fields (rows_norm (rows_of fs) (cells_by fs v))) others

-- what is copied of a table that ignores other members
pub table_copied : {A : Type 0} (way : Way) (fs : List (Field A)) (v w : A) (a z : Copier) → a.way ≡ way → CopiesFields fs v w a z → z.failed ≡ None → fields_by fs w ≡ made way (table_of fs) (fields_by fs v)
table_copied way fs v w a z is h none = by_way way fs ignored v w no_members no_members a z is h none refl

others_same : (ms ns : Members) (a b : Copier) → CopiesOthers ms ns a b → b.failed ≡ None → (a.failed ≡ None) × (ns ≡ ms)
unfolding CopiesOthers
others_same ms ns a b h none = h.1 none

-- of one that keeps them
pub kept_copied : {A : Type 0} (way : Way) (fs : List (Field A)) (o : Other) (v w : A) (ms ns : Members) (a z : Copier) → a.way ≡ way → CopiesKept fs v w ms ns a z → z.failed ≡ None
    → fields (cells_by fs w) ns ≡ made way (table (rows_of fs) o) (fields (cells_by fs v) ms)
kept_copied way fs o v w ms ns a z is h none =
    let p = others_same ms ns h.0 z h.2 none in
    by_way way fs o v w ms ns a h.0 is h.1 p.0 p.1

-- ---- what is answered at the end

pub table_ended : {A : Type 0} (way : Way) (fs : List (Field A)) (v w : A) (a z : Copier) → a.way ≡ way → CopiesFields fs v w a z → (x : A) → (z.failed ≡ None) × (x ≡ w) → fields_by fs x ≡ made way (table_of fs) (fields_by fs v)
table_ended way fs v w a z is h x ends = ap (fields_by fs) ends.1 ∙ table_copied way fs v w a z is h ends.0

pub kept_ended : {A : Type 0} (way : Way) (fs : List (Field A)) (o : Other) (others_of : A → Members) (v w : A) (a z : Copier) → a.way ≡ way → CopiesKept fs v w (others_of v) (others_of w) a z → (x : A) → (z.failed ≡ None) × (x ≡ w)
    → fields (cells_by fs x) (others_of x) ≡ made way (table (rows_of fs) o) (fields (cells_by fs v) (others_of v))
kept_ended way fs o others_of v w a z is h x ends = ap (λ u. fields (cells_by fs u) (others_of u)) ends.1 ∙ kept_copied way fs o v w (others_of v) (others_of w) a z is h ends.0
