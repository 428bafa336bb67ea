-- From the case that was read to the value.
use Rattle.std.proofs.Common.{◌≡◌, ◌≤◌, ℕ, zero, suc, List, ◌∷◌, Bool, true, false, Some, None, length, refl, sym, ap, ◌∙◌, true≢false, arith}
use Rattle.std.specs.Prelude.{◌&&◌, not}
use Rattle.std.proofs.lemmas.Option.{same_Some}
use Rattle.serde_json.specs.Data.{Data}
use Rattle.sentry_json.specs.Keys.{is_among, are_distinct, StandsAt}
use Rattle.sentry_json.proofs.Beside.{among}
use Rattle.sentry_tables.specs.Cell.{Cell, choice}
use Rattle.sentry_tables.specs.Kind.{tagged, Cases, no_cases, case, words}
use Rattle.sentry_tables.specs.Shows.{Shows, CaseShows, is_object, IsChoice, tag_word}
use Rattle.sentry_tables.specs.Reading.{Shown, Refused, ShownAt, RefusedAt, Only}
use Rattle.sentry_tables.specs.declared.error.TreeError.{TreeError}
use Rattle.sentry_tables.specs.declared.error.TreeError.TheVariants.{Misfit, Memory}
use Rattle.sentry_rows.specs.Cased.{case_kind, CaseShown, CaseRefused, CaseShownAt, CaseRefusedAt}
use Rattle.sentry_rows.proofs.TagsShown.{other_words, choice_refused}

-- ---- by the number of a word

not_again : (k : List ℕ) (ks : List (List ℕ)) → are_distinct (k ∷ ks) ≡ true → (is_among k ks ≡ false) × (are_distinct ks ≡ true)
not_again k ks one = at (is_among k ks) refl one
  where
    at : (b : Bool) → is_among k ks ≡ b → (not b && are_distinct ks) ≡ true → (is_among k ks ≡ false) × (are_distinct ks ≡ true)
    at true is h = absurd cc
    at false is h = (is, h)

module _ (now : Cell) (word : List ℕ) (d : Data) where
  shows_at : (cases : Cases) (n : ℕ) (c : Cell) → StandsAt word n (words cases) → Shows (case_kind cases n) now d c → CaseShows cases now (Some word) d n c
  shows_at no_cases n c at h = absurd at
  shows_at (case w rows o cases) zero c at h = (ap Some at, h.1)
  shows_at (case w rows o cases) (suc n) c at h = shows_at cases n c at h

  is_object_at : (cases : Cases) (n : ℕ) (c : Cell) → StandsAt word n (words cases) → Shows (case_kind cases n) now d c → is_object d ≡ true
  is_object_at no_cases n c at h = absurd at
  is_object_at (case w rows o cases) zero c at h = h.0
  is_object_at (case w rows o cases) (suc n) c at h = is_object_at cases n c at h

  refuses_at : (cases : Cases) (n m : ℕ) (c : Cell) → are_distinct (words cases) ≡ true → StandsAt word n (words cases) → is_object d ≡ true → ((x : Cell) → Shows (case_kind cases n) now d x → ⊥) → CaseShows cases now (Some word) d m c → ⊥
  refuses_at no_cases n m c once at is refused s = s
  refuses_at (case w rows o cases) zero zero c once at is refused s = refused c (is, s.1)
  refuses_at (case w rows o cases) zero (suc m) c once at is refused s =
      let p = not_again w (words cases) once in
      other_words now word d cases m c (rw at p.0) s
  refuses_at (case w rows o cases) (suc n) zero c once at is refused s =
      let p = not_again w (words cases) once in
      true≢false (sym (among word n (words cases) at) ∙ rw (same_Some word w s.0) p.0)
  refuses_at (case w rows o cases) (suc n) (suc m) c once at is refused s = refuses_at cases n m c (not_again w (words cases) once).1 at is refused s

-- ---- what the reader of a case answers, at every moment

pub case_shown : (cases : Cases) (n k : ℕ) (d : Data) (c : Cell) → n ≡ k → Shown (case_kind cases k) d c → CaseShown cases n d (choice k c)
unfolding CaseShown
case_shown cases n k d c is h = (sym is, rw is h)

pub case_refused : (cases : Cases) (n k : ℕ) (d : Data) (e : TreeError) → n ≡ k → Only e (Refused (case_kind cases k) d) → Only e (CaseRefused cases n d)
unfolding CaseRefused
case_refused cases n k d Misfit is h = rw is h
case_refused cases n k d Memory is h = tt

nothing_shown : (cases : Cases) (n : ℕ) (now : Cell) (d : Data) (c : Cell) → length (words cases) ≤ n → Shows (case_kind cases n) now d c → ⊥
nothing_shown no_cases n now d c h s = choice_refused _ c (λ m x t. t) s.1
nothing_shown (case w rows o cases) zero now d c h s = absurd (omega arith)
nothing_shown (case w rows o cases) (suc n) now d c h s = nothing_shown cases n now d c (omega arith) s

pub past_cases : (cases : Cases) (n : ℕ) (d : Data) → length (words cases) ≤ n → CaseRefused cases n d
unfolding CaseRefused Refused
past_cases cases n d h now c s = nothing_shown cases n now d c h s

pub case_read : {A : Type 0} (cases : Cases) (f : A → Cell) (word : List ℕ) (n : ℕ) (d : Data) (v : A) → tag_word None d ≡ Some word → StandsAt word n (words cases) → CaseShown cases n d (f v) → Shown (tagged cases) d (f v)
unfolding CaseShown Shown
case_read cases f word n d v is at h now = from (f v) h
  where
    from : (c : Cell) → IsChoice (λ m x. (m ≡ n) × Shown (case_kind cases n) d x) c → Shows (tagged cases) now d c
    from (choice m x) h = (is_object_at now word d cases n x at (h.1 now), rw (is, h.0) (shows_at now word d cases n x at (h.1 now)))
    from _ h = absurd h

pub case_fails : (cases : Cases) (word : List ℕ) (n : ℕ) (d : Data) (e : TreeError) → tag_word None d ≡ Some word → StandsAt word n (words cases) → are_distinct (words cases) ≡ true → Only e (CaseRefused cases n d) → Only e (Refused (tagged cases) d)
unfolding CaseRefused Refused
case_fails cases word n d Misfit is at once h = λ now c s. choice_refused _ c (λ m x t. refuses_at now word d cases n m x once at s.0 (h now) (rw is at t)) s.1
case_fails cases word n d Memory is at once h = tt

-- ---- at a moment

module _ (now : Cell) where
  pub case_shown_at : (cases : Cases) (n k : ℕ) (d : Data) (c : Cell) → n ≡ k → ShownAt now (case_kind cases k) d c → CaseShownAt now cases n d (choice k c)
  unfolding CaseShownAt
  case_shown_at cases n k d c is h = (sym is, rw is h)

  pub case_refused_at : (cases : Cases) (n k : ℕ) (d : Data) (e : TreeError) → n ≡ k → Only e (RefusedAt now (case_kind cases k) d) → Only e (CaseRefusedAt now cases n d)
  unfolding CaseRefusedAt
  case_refused_at cases n k d Misfit is h = rw is h
  case_refused_at cases n k d Memory is h = tt

  -- what is shown at every moment is shown now
  pub case_shown_now : (cases : Cases) (n k : ℕ) (d : Data) (c : Cell) → n ≡ k → Shown (case_kind cases k) d c → CaseShownAt now cases n d (choice k c)
  unfolding CaseShownAt ShownAt Shown
  case_shown_now cases n k d c is h = (sym is, rw is (h now))

  pub case_refused_now : (cases : Cases) (n k : ℕ) (d : Data) (e : TreeError) → n ≡ k → Only e (Refused (case_kind cases k) d) → Only e (CaseRefusedAt now cases n d)
  unfolding CaseRefusedAt RefusedAt Refused
  case_refused_now cases n k d Misfit is h = rw is (h now)
  case_refused_now cases n k d Memory is h = tt

  pub past_cases_at : (cases : Cases) (n : ℕ) (d : Data) → length (words cases) ≤ n → CaseRefusedAt now cases n d
  unfolding CaseRefusedAt RefusedAt
  past_cases_at cases n d h c s = nothing_shown cases n now d c h s

  pub case_read_at : {A : Type 0} (cases : Cases) (f : A → Cell) (word : List ℕ) (n : ℕ) (d : Data) (v : A) → tag_word None d ≡ Some word → StandsAt word n (words cases) → CaseShownAt now cases n d (f v) → ShownAt now (tagged cases) d (f v)
  unfolding CaseShownAt ShownAt
  case_read_at cases f word n d v is at h = from (f v) h
    where
      from : (c : Cell) → IsChoice (λ m x. (m ≡ n) × ShownAt now (case_kind cases n) d x) c → Shows (tagged cases) now d c
      from (choice m x) h = (is_object_at now word d cases n x at h.1, rw (is, h.0) (shows_at now word d cases n x at h.1))
      from _ h = absurd h

  pub case_fails_at : (cases : Cases) (word : List ℕ) (n : ℕ) (d : Data) (e : TreeError) → tag_word None d ≡ Some word → StandsAt word n (words cases) → are_distinct (words cases) ≡ true → Only e (CaseRefusedAt now cases n d) → Only e (RefusedAt now (tagged cases) d)
  unfolding CaseRefusedAt RefusedAt
  case_fails_at cases word n d Misfit is at once h = λ c s. choice_refused _ c (λ m x t. refuses_at now word d cases n m x once at s.0 h (rw is at t)) s.1
  case_fails_at cases word n d Memory is at once h = tt

-- ---- by any word, at a moment

pub shown_by_word : (now : Cell) (cases : Cases) (word : List ℕ) (n : ℕ) (d : Data) (c : Cell) → StandsAt word n (words cases) → CaseShownAt now cases n d c → (is_object d ≡ true) × IsChoice (CaseShows cases now (Some word) d) c
unfolding CaseShownAt ShownAt
shown_by_word now cases word n d (choice m x) at h = (is_object_at now word d cases n x at h.1, rw h.0 (shows_at now word d cases n x at h.1))
shown_by_word now cases word n d _ at h = absurd h

pub refused_by_word : (now : Cell) (cases : Cases) (word : List ℕ) (n : ℕ) (d : Data) (c : Cell) → StandsAt word n (words cases) → are_distinct (words cases) ≡ true → CaseRefusedAt now cases n d → (is_object d ≡ true) × IsChoice (CaseShows cases now (Some word) d) c → ⊥
unfolding CaseRefusedAt RefusedAt
refused_by_word now cases word n d c at once h s = choice_refused _ c (λ m x t. refuses_at now word d cases n m x once at s.0 h t) s.1
