-- The spelling of code identifiers is lawful.
use Rattle.std.proofs.Common.{◌≡◌, ◌<◌, ℕ, List, true, get_or, Some, refl, ap, arith}
use Rattle.std.proofs.lemmas.Bool.Decides.{nat_tests}
use Rattle.std.proofs.lemmas.Option.{same_Some}
use Rattle.std.proofs.lemmas.List.Sums.{AllPass-from_list_all}
use Rattle.sentry_tables.specs.Cell.{Cell, text}
use Rattle.sentry_tables.specs.Lawful.{IsLawful, IsNormal, RefusesNull}
use Rattle.sentry_tables.specs.Laws.{HasLaws}
use Rattle.sentry_tables.specs.Spelling.{SpellingLaws, word_of}
use Rattle.sentry_tables.proofs.Spellings.{read_as_laws, spelled_laws, spelled_has_laws, spelled_refuses_null}
use Rattle.sentry_identifiers.specs.CodeDigits.{code_digits, is_code_digit, are_code_digits}
use Rattle.sentry_identifiers.specs.CodeIdTree.{IsCodeCell, code_of, code_spelling, code_kind}
use Rattle.sentry_identifiers.proofs.CodeIds.{kept_are_digits, digits_are_kept}
use Rattle.sentry_text.proofs.ValueTexts.{ValueLaws, value_laws}
use Rattle.sentry_text.proofs.Bounds.{small_within, small_utf8}

abbrev Digits : List ℕ → Type 0
Digits s = are_code_digits s ≡ true

digit_small : (c : ℕ) → is_code_digit c ≡ true → c < 128
digit_small c h = grind (arith, nat_tests)

of_digits : (c : Cell) → IsCodeCell c → (s : List ℕ) × Digits s × (text s ≡ c)
of_digits (text s) h = (s, h, refl)
of_digits _ h = absurd h

code_values : ValueLaws (λ s. Some (code_digits s)) (λ s. s) Digits text word_of IsCodeCell
code_values = record {
  value = of_digits;
  stored = λ s h. h;
  text = λ s h. refl;
  back = λ s h. ap Some (digits_are_kept s h);
  held = λ s ds e. let same = same_Some (code_digits s) ds e in let kept = kept_are_digits s in cc;
  utf8 = λ s h. small_utf8 s (small_within 128 s (omega arith) (λ k within. digit_small (get_or s k 0) (AllPass-from_list_all is_code_digit s h k 0 within)));
}

pub code_laws : SpellingLaws code_spelling
code_laws =
    read_as_laws code_of word_of IsCodeCell
    (value_laws (λ s. Some (code_digits s)) (λ s. s) Digits text word_of IsCodeCell code_values)

pub code_lawful : IsLawful code_kind
code_lawful = spelled_laws code_spelling code_laws

pub code_has_laws : HasLaws code_kind
code_has_laws = spelled_has_laws code_spelling code_laws

pub code_refuses_null : RefusesNull code_kind
code_refuses_null = spelled_refuses_null code_spelling

pub code_normal : (c : Cell) → IsCodeCell c → IsNormal code_kind c
code_normal c h = (h, tt, tt, refl)
