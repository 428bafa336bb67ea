-- Values by the word at the key `type`.
use Rattle.std.proofs.Common.{◌≡◌, ℕ, zero, suc, List, Some, None, refl, sym, ◌∙◌, true, false, true≢false, bytes_eq}
use Rattle.std.proofs.lemmas.Option.{same_Some}
use Rattle.std.proofs.lemmas.Bool.{or_parts}
use Rattle.std.proofs.lemmas.Slice.Eq.{bytes_eq-Decides}
use Rattle.serde_json.specs.Data.{Data}
use Rattle.serde_json.specs.Find.{get, as_str}
use Rattle.sentry_json.specs.Keys.{is_among}
use Rattle.sentry_tables.specs.Cell.{Cell, choice}
use Rattle.sentry_tables.specs.Kind.{tagged, Cases, no_cases, case, words, tag}
use Rattle.sentry_tables.specs.Shows.{CaseShows, IsChoice, tag_word}
use Rattle.sentry_tables.specs.Reading.{Refused, RefusedAt}

pub word_there : (d e : Data) → get tag d ≡ Some e → as_str e ≡ tag_word None d
word_there d e is = rw is refl

pub word_absent : (d : Data) → get tag d ≡ None → None ≡ tag_word None d
word_absent d is = rw is refl

-- ---- words that no case has

module _ (now : Cell) (word : List ℕ) (d : Data) where
  equal_words : (w : List ℕ) → Some word ≡ Some w → bytes_eq word w ≡ true
  equal_words w e = (bytes_eq-Decides word w).1 (same_Some word w e)

  pub other_words : (cases : Cases) (m : ℕ) (c : Cell) → is_among word (words cases) ≡ false → CaseShows cases now (Some word) d m c → ⊥
  other_words no_cases m c none s = s
  other_words (case w rows o cases) zero c none s = absurd (true≢false (sym (equal_words w s.0) ∙ (or_parts (bytes_eq word w) _ none).0))
  other_words (case w rows o cases) (suc m) c none s = other_words cases m c (or_parts (bytes_eq word w) _ none).1 s

pub choice_refused : (P : ℕ → Cell → Type 0) (c : Cell) → ((n : ℕ) (x : Cell) → P n x → ⊥) → IsChoice P c → ⊥
choice_refused P (choice n x) f h = f n x h
choice_refused P _ f h = h

pub no_case_shows : (cases : Cases) (d : Data) (now : Cell) (n : ℕ) (c : Cell) → CaseShows cases now None d n c → ⊥
no_case_shows no_cases d now n c s = s
no_case_shows (case w rows o cases) d now zero c s = absurd cc
no_case_shows (case w rows o cases) d now (suc n) c s = no_case_shows cases d now n c s

-- ---- at every moment

pub another_word : (cases : Cases) (word : List ℕ) (d : Data) → tag_word None d ≡ Some word → is_among word (words cases) ≡ false → Refused (tagged cases) d
unfolding Refused
another_word cases word d is none now c s = choice_refused _ c (λ m x t. other_words now word d cases m x none (rw is at t)) s.1

pub no_word : (cases : Cases) (d : Data) → tag_word None d ≡ None → Refused (tagged cases) d
unfolding Refused
no_word cases d is now c s = choice_refused _ c (λ n x t. no_case_shows cases d now n x (rw is at t)) s.1

-- ---- at a moment

pub another_word_at : (now : Cell) (cases : Cases) (word : List ℕ) (d : Data) → tag_word None d ≡ Some word → is_among word (words cases) ≡ false → RefusedAt now (tagged cases) d
unfolding RefusedAt
another_word_at now cases word d is none c s = choice_refused _ c (λ m x t. other_words now word d cases m x none (rw is at t)) s.1

pub no_word_at : (now : Cell) (cases : Cases) (d : Data) → tag_word None d ≡ None → RefusedAt now (tagged cases) d
unfolding RefusedAt
no_word_at now cases d is c s = choice_refused _ c (λ n x t. no_case_shows cases d now n x (rw is at t)) s.1
