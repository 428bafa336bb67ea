-- Lines, by what the reader of JSON and the reader of trees answer.
use Rattle.std.proofs.Common.{◌≡◌, ℕ, List, true, false, Option, Some, None, Result, Ok, Err, IfOk, subst, sym, ◌∙◌, inl, inr}
use Rattle.std.proofs.lemmas.Option.{none-some, same_Some}
use Rattle.std.specs.Prelude.{IfErr, IfSome}
use Rattle.std.specs.Str.{IsUtf8, is_utf8}
use Rattle.std.proofs.lemmas.Bool.{cases_Bool}
use Rattle.std.proofs.lemmas.Str.{IsUtf8-from_is_utf8, is_utf8-from_IsUtf8}
use Rattle.serde_json.specs.Data.{Data}
use Rattle.serde_json.specs.Find.{get}
use Rattle.serde_json.specs.Read.{read}
use Rattle.serde_json.specs.Written.{has_float}
use Rattle.sentry_json.specs.Keys.{at_keys}
use Rattle.sentry_json.specs.Line.{tree_of}
use Rattle.sentry_tables.specs.Cell.{Cell}
use Rattle.sentry_tables.specs.Kind.{Kind}
use Rattle.sentry_tables.specs.Reading.{Only, LineShows, LineRefused, Shown, Refused, TextShown, TextRefused, ReadsText, ShownAt, RefusedAt, IsShownWith, TextShownAt, TextRefusedAt, ReadsTextAt}
use Rattle.sentry_tables.specs.declared.error.TreeError.{TreeError}
use Rattle.sentry_tables.specs.declared.error.TreeError.TheVariants.{Misfit, Memory}

-- ---- the tree of a line

module _ (line : List ℕ) where
  pub tree_found : (d : Data) → IsUtf8 line → read line ≡ Some d → has_float d ≡ false → tree_of line ≡ Some d
  unfolding tree_of
  tree_found d utf8 reads whole = rw (is_utf8-from_IsUtf8 line utf8, reads, whole)

  pub tree_float : (d : Data) → IsUtf8 line → read line ≡ Some d → has_float d ≡ true → tree_of line ≡ None
  unfolding tree_of
  tree_float d utf8 reads float = rw (is_utf8-from_IsUtf8 line utf8, reads, float)

  pub tree_none : (IsUtf8 line → read line ≡ None) → tree_of line ≡ None
  unfolding tree_of
  tree_none none = elim (cases_Bool (is_utf8 line)) [
    | inl e ↦ let f : read line ≡ None = none (IsUtf8-from_is_utf8 line e) in rw (e, f)
    | inr e ↦ rw e
  ]

-- ---- what a line shows

-- of a line that may be read
pub some_found : {A : Type 0} (P : A → Type 0) (o : Option A) (x : A) → IfSome o P → o ≡ Some x → P x
some_found P o x h is = subst (λ q. IfSome q P) is h

pub line_shows : (P : Data → Type 0) (line : List ℕ) (d : Data) → tree_of line ≡ Some d → P d → LineShows P line
unfolding LineShows
line_shows P line d is h = (d, is, h)

pub line_refused : (P : Data → Type 0) (line : List ℕ) (d : Data) (e : TreeError) → tree_of line ≡ Some d → Only e (P d) → Only e (LineRefused P line)
unfolding LineRefused
line_refused P line d Misfit is h = λ x s. subst P (same_Some d x (sym is ∙ s)) h
line_refused P line d Memory is h = tt

pub no_line : (P : Data → Type 0) (line : List ℕ) (e : TreeError) → Only e (tree_of line ≡ None) → Only e (LineRefused P line)
unfolding LineRefused
no_line P line Misfit none = λ d s. absurd (none-some d (sym none ∙ s))
no_line P line Memory none = tt

pub text_read_by : {A : Type 0} (K : Kind) (f : A → Cell) (line : List ℕ) (r : Result A TreeError) → IfOk r (λ v. LineShows (λ d. Shown K d (f v)) line) → IfErr r (λ e. Only e (LineRefused (Refused K) line)) → ReadsText K f line r
unfolding LineShows LineRefused TextShown TextRefused Shown Refused
text_read_by K f line (Ok v) ok err = λ now. (ok.0, ok.1, ok.2 now)
text_read_by K f line (Err Misfit) ok err = λ now c s. err s.0 s.1 now c s.2
text_read_by K f line (Err Memory) ok err = tt

pub text_read_by_at : {A : Type 0} (now : Cell) (K : Kind) (f : A → Cell) (line : List ℕ) (r : Result A TreeError) → IfOk r (λ v. LineShows (λ d. ShownAt now K d (f v)) line) → IfErr r (λ e. Only e (LineRefused (RefusedAt now K) line)) → ReadsTextAt now K f line r
unfolding LineShows LineRefused TextShownAt TextRefusedAt ShownAt RefusedAt
text_read_by_at now K f line (Ok v) ok err = ok
text_read_by_at now K f line (Err Misfit) ok err = λ c s. err s.0 s.1 c s.2
text_read_by_at now K f line (Err Memory) ok err = tt

-- a line of which what stands at a key was read apart
pub text_read_apart : (now : Cell) (k : List ℕ) (o : Option Data) (ks : List (List ℕ)) (K : Kind) (c x : Cell) (line : List ℕ)
    → LineShows (λ d. ShownAt now K (at_keys ks d) c × (o ≡ get k d)) line → IsShownWith k o ks K c x → TextShownAt now K line x
unfolding LineShows ShownAt IsShownWith TextShownAt
text_read_apart now k o ks K c x line (d, is, both) completes = (d, is, completes now d (sym both.1) both.0)
