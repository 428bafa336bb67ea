-- The words and the indices of categories and reasons.
use Rattle.std.proofs.Common.{◌≡◌, ℕ, suc, List, [], ◌∷◌, Some, refl, sym, ap, ◌∙◌}
use Rattle.std.specs.Bool.{⊤}
use Rattle.std.proofs.lemmas.Option.{same_Some}
use Rattle.std.specs.Prelude.{slice_get}
use Rattle.sentry_tables.specs.Laws.{HasLaws}
use Rattle.sentry_tables.specs.Spelling.{SpellingLaws}
use Rattle.sentry_tables.proofs.Spellings.{spelled_has_laws}
use Rattle.sentry_words.proofs.Enumerations.{ReadsItsWords, words_laws}
use Rattle.sentry_reports.specs.declared.category.Category.{Category}
use Rattle.sentry_reports.specs.declared.category.Category.TheVariants as category
use Rattle.sentry_reports.specs.declared.reason.Reason.{Reason}
use Rattle.sentry_reports.specs.declared.reason.Reason.TheVariants as reason
use Rattle.sentry_reports.specs.Categories.{categories, category_index, category_in_place, category_word, category_of, category_spelling, category_kind, reasons, reason_index, reason_in_place, reason_word, reason_of, reason_spelling, reason_kind}

-- the elements have these indices, which count up from a number on
abbrev pub CountsUp : {A : Type 0} → (A → ℕ) → ℕ → List A → Type 0
CountsUp index start [] = ⊤
CountsUp index start (x ∷ xs) = (index x ≡ start) × CountsUp index (suc start) xs

pub categories_count_up : CountsUp category_index 0 categories
categories_count_up = (refl, (refl, (refl, (refl, (refl, (refl, (refl, (refl, (refl, (refl, (refl, (refl, tt))))))))))))

pub reasons_count_up : CountsUp reason_index 0 reasons
reasons_count_up = (refl, (refl, (refl, (refl, (refl, (refl, (refl, (refl, (refl, tt)))))))))

category_words_read : ReadsItsWords category_of category_word
category_words_read category.Error = (refl, refl)
category_words_read _ = (refl, refl)

pub category_word_back : (x : Category) → category_of (category_word x) ≡ Some x
category_word_back x = (category_words_read x).0

-- at one index stands one category
pub category_at_index : (a b : Category) → category_index a ≡ category_index b → a ≡ b
category_at_index a b same = same_Some a b (sym (category_in_place a) ∙ ap (slice_get categories) same ∙ category_in_place b)

pub category_laws : SpellingLaws category_spelling
category_laws = words_laws category_of category_word category_words_read

pub category_has_laws : HasLaws category_kind
category_has_laws = spelled_has_laws category_spelling category_laws

reason_words_read : ReadsItsWords reason_of reason_word
reason_words_read reason.SendError = (refl, refl)
reason_words_read _ = (refl, refl)

pub reason_word_back : (x : Reason) → reason_of (reason_word x) ≡ Some x
reason_word_back x = (reason_words_read x).0

-- at one index stands one reason
pub reason_at_index : (a b : Reason) → reason_index a ≡ reason_index b → a ≡ b
reason_at_index a b same = same_Some a b (sym (reason_in_place a) ∙ ap (slice_get reasons) same ∙ reason_in_place b)

pub reason_laws : SpellingLaws reason_spelling
reason_laws = words_laws reason_of reason_word reason_words_read

pub reason_has_laws : HasLaws reason_kind
reason_has_laws = spelled_has_laws reason_spelling reason_laws
